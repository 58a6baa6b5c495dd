-- What is wrong, and the usage's line behind it.
-- Assumes nothing.
use Rattle.orders.proofs.SaidSteps.{saying}
use Rattle.orders.proofs.said.put_fault_usage.Goals as goal

pub put_usage_line-requires : goal.put_usage_line-requires
put_usage_line-requires c = search saying

pub returns : goal.returns
returns c = search saying
