-- It is the first, the second or a later one.
-- Assumes nothing.
use Rattle.orders.proofs.UsageSteps.{adding}
use Rattle.orders.proofs.arguments.name_more.Goals as goal

pub returns-in-0 : goal.returns-in-0
returns-in-0 c = search adding

pub returns-in-1 : goal.returns-in-1
returns-in-1 c = search adding

pub returns-in_default : goal.returns-in_default
returns-in_default c = search adding
