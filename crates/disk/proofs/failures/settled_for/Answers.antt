-- The folder can't be made safe at all, or has failed to become so.
-- Assumes nothing.
use Rattle.disk.proofs.SaveSteps.{settling}
use Rattle.disk.proofs.failures.settled_for.Goals as goal

pub returns-then-error-eq-INVALID : goal.returns-then-error-eq-INVALID
returns-then-error-eq-INVALID c = search settling

pub returns : goal.returns
returns c = search settling
