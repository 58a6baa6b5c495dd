-- There is one name too many, or a number, or a file.
-- Assumes nothing.
use Rattle.orders.proofs.UsageSteps.{counting}
use Rattle.orders.proofs.arguments.take_name.Goals as goal

pub returns-then-row-o : goal.returns-then-row-o
returns-then-row-o c = search counting

pub returns-then-row-o-2 : goal.returns-then-row-o-2
returns-then-row-o-2 c = search counting

pub returns : goal.returns
returns c = search counting
