-- The row's name is what an argument is missing of.
-- Assumes nothing.
use Rattle.orders.proofs.SaidSteps.{saying}
use Rattle.orders.proofs.said.put_missing.Goals as goal

pub returns : goal.returns
returns c = search saying
