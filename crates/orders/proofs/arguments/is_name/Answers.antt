-- It is a name, or none.
-- Assumes nothing.
use Rattle.orders.proofs.UsageSteps.{naming}
use Rattle.orders.proofs.arguments.is_name.Goals as goal

pub returns-in-Name : goal.returns-in-Name
returns-in-Name c = search naming

pub returns-in_default : goal.returns-in_default
returns-in_default c = search naming
