-- What the calls told decides.
-- Assumes nothing.
use Rattle.script.proofs.WordSteps.{synchronies}
use Rattle.script.proofs.words.synchrony_at.Goals as goal

pub returns-then-is_word : goal.returns-then-is_word
returns-then-is_word c = search synchronies

pub returns-then-is_word-2 : goal.returns-then-is_word-2
returns-then-is_word-2 c = search synchronies

pub returns : goal.returns
returns c = search synchronies
