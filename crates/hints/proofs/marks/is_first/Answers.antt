-- The bytes left behind the blanks are those from the first token on.
-- Assumes nothing.
use Rattle.hints.proofs.MarkSteps.{fronts}
use Rattle.hints.proofs.marks.is_first.Goals as goal

pub returns : goal.returns
returns c = search fronts
