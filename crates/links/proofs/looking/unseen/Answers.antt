-- Nothing stands there, or another failure is told.
-- Assumes nothing.
use Rattle.links.proofs.LookSteps.{finding}
use Rattle.links.proofs.looking.unseen.Goals as goal

pub returns-then-error-eq-NO_ENTRY : goal.returns-then-error-eq-NO_ENTRY
returns-then-error-eq-NO_ENTRY c = search finding

pub returns : goal.returns
returns c = search finding
