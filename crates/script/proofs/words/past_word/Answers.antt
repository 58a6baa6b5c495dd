-- What the call told decides.
-- Assumes nothing.
use Rattle.script.proofs.WordSteps.{wording}
use Rattle.script.proofs.words.past_word.Goals as goal

pub returns : goal.returns
returns c = search wording
