-- Nothing was found, or something.
-- Assumes nothing.
use Rattle.orders.proofs.UsageSteps.{beginning}
use Rattle.orders.proofs.arguments.is_right.Goals as goal

pub returns-in-Right : goal.returns-in-Right
returns-in-Right c = search beginning

pub returns-in_default : goal.returns-in_default
returns-in_default c = search beginning
