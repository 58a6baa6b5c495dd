-- The line is fed; where it has ended it is carried out.
-- Assumes nothing.
use Rattle.chunks.proofs.GoingSteps.{going}
use Rattle.chunks.proofs.go_on.Goals as goal

pub overflow_add-p : goal.overflow_add-p
overflow_add-p c = search going

pub overflow_add-result : goal.overflow_add-result
overflow_add-result c = search going

pub returns-then-fed : goal.returns-then-fed
returns-then-fed c = search going

pub returns : goal.returns
returns c = search going
