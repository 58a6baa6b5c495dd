-- An action leaves all items, a group those after its own.
-- Assumes nothing.
use Rattle.items.proofs.WalkSteps.{judges}
use Rattle.items.proofs.walk.accepted.Goals as goal

pub returns-then-i-eq0 : goal.returns-then-i-eq0
returns-then-i-eq0 c = search judges

pub overflow_sub-left : goal.overflow_sub-left
overflow_sub-left c = search judges

pub returns : goal.returns
returns c = search judges
