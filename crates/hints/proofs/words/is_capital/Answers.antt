-- What the calls told decides.
-- Assumes nothing.
use Rattle.hints.proofs.WordSteps.{capitals}
use Rattle.hints.proofs.words.is_capital.Goals as goal

pub returns-then-is_any_word : goal.returns-then-is_any_word
returns-then-is_any_word c = search capitals

pub returns : goal.returns
returns c = search capitals
