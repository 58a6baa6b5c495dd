-- Three pieces are laid one behind the other.
-- Assumes nothing.
use Rattle.orders.proofs.SaidSteps.{saying}
use Rattle.orders.proofs.said.put_fault.Goals as goal

pub returns : goal.returns
returns c = search saying
