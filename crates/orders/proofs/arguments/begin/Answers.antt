-- The first argument is a wish, or the name of a command.
-- Assumes nothing.
use Rattle.orders.proofs.UsageSteps.{beginning}
use Rattle.orders.proofs.arguments.begin.Goals as goal

pub returns-in-Wish : goal.returns-in-Wish
returns-in-Wish c = search beginning

pub returns-in-Name : goal.returns-in-Name
returns-in-Name c = search beginning
