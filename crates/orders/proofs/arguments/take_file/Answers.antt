-- Standard input a second time is a fault.
-- Assumes nothing.
use Rattle.orders.proofs.UsageSteps.{filing}
use Rattle.orders.proofs.arguments.take_file.Goals as goal

pub returns-then-o-ge1 : goal.returns-then-o-ge1
returns-then-o-ge1 c = search filing

pub returns-then-is_input : goal.returns-then-is_input
returns-then-is_input c = search filing

pub returns : goal.returns
returns c = search filing
