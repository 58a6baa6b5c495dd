-- The raised number of the value that the bits are.
-- Assumes nothing.
use Rattle.values.proofs.CurveSteps.{raising}
use Rattle.values.proofs.curve.raised.Goals as goal

pub overflow_add-result : goal.overflow_add-result
overflow_add-result c = search raising

pub returns-then-bits-lt-HALF_RANGE : goal.returns-then-bits-lt-HALF_RANGE
returns-then-bits-lt-HALF_RANGE c = search raising

pub returns : goal.returns
returns c = search raising
