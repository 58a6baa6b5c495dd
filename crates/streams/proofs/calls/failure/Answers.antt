-- An error number is one of the two that are waited out, or another.
-- Assumes nothing.
use Rattle.streams.proofs.CallSteps.{failing}
use Rattle.streams.proofs.calls.failure.Goals as goal

pub returns-then-error-eq-INTERRUPTED : goal.returns-then-error-eq-INTERRUPTED
returns-then-error-eq-INTERRUPTED c = search failing

pub returns-then-error-eq-NOT_READY : goal.returns-then-error-eq-NOT_READY
returns-then-error-eq-NOT_READY c = search failing

pub returns : goal.returns
returns c = search failing
