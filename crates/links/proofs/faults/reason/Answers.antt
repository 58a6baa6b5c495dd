-- The number is 0, or another.
-- Assumes nothing.
use Rattle.links.proofs.FaultSteps.{reasoning}
use Rattle.links.proofs.faults.reason.Goals as goal

pub returns-then-error-eq0 : goal.returns-then-error-eq0
returns-then-error-eq0 c = search reasoning

pub returns : goal.returns
returns c = search reasoning
