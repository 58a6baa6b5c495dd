-- What the calls told decides.
-- Assumes nothing.
use Rattle.script.proofs.WordSteps.{errors}
use Rattle.script.proofs.words.error_at.Goals as goal

pub returns-then-is_word : goal.returns-then-is_word
returns-then-is_word c = search errors depth 10

pub returns-then-is_word-2 : goal.returns-then-is_word-2
returns-then-is_word-2 c = search errors depth 10

pub returns-then-is_word-3 : goal.returns-then-is_word-3
returns-then-is_word-3 c = search errors depth 10

pub returns-then-is_word-4 : goal.returns-then-is_word-4
returns-then-is_word-4 c = search errors depth 10

pub returns : goal.returns
returns c = search errors depth 10
