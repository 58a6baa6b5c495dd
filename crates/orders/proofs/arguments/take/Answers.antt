-- Where something was found already, nothing changes.
-- Assumes nothing.
use Rattle.orders.proofs.UsageSteps.{closing}
use Rattle.orders.proofs.arguments.take.Goals as goal

pub returns-then-is_right : goal.returns-then-is_right
returns-then-is_right c = search closing

pub returns : goal.returns
returns c = search closing
