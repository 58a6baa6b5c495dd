-- It is a number, or none.
-- Assumes nothing.
use Rattle.orders.proofs.UsageSteps.{figures}
use Rattle.orders.proofs.arguments.take_number.Goals as goal

pub returns-in_default : goal.returns-in_default
returns-in_default c = search figures

pub returns : goal.returns
returns c = search figures
