-- Each arm in turn.
-- Assumes nothing.
use Rattle.hints.proofs.MarkSteps.{point-tests}
use Rattle.hints.proofs.marks.is_point.Goals as goal

pub returns-in-46 : goal.returns-in-46
returns-in-46 c = search point-tests

pub returns-in-44 : goal.returns-in-44
returns-in-44 c = search point-tests

pub returns-in_default : goal.returns-in_default
returns-in_default c = search point-tests
