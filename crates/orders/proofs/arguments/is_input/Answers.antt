-- It is `-`, and one of those that are read.
-- Assumes nothing.
use Rattle.orders.proofs.UsageSteps.{input-other, input-read}
use Rattle.orders.proofs.arguments.is_input.Goals as goal

pub returns-then-same : goal.returns-then-same
returns-then-same c = input-read _ _ _ c.same.ensures _ c.if-same.true c.entry_of.ensures.reads

pub returns-else-same : goal.returns-else-same
returns-else-same c = input-other _ _ _ c.same.ensures c.if-same.false
