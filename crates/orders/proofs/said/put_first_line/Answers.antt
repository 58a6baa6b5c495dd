-- The name and the line's number are laid one behind the other.
-- Assumes nothing.
use Rattle.orders.proofs.SaidSteps.{shows}
use Rattle.orders.proofs.said.put_first_line.Goals as goal

pub returns : goal.returns
returns c = search shows
