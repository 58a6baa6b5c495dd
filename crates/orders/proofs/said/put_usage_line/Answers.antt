-- The words, the row's usage and the line's end are laid one behind the other.
-- Assumes nothing.
use Rattle.orders.proofs.SaidSteps.{saying}
use Rattle.orders.proofs.said.put_usage_line.Goals as goal

pub returns : goal.returns
returns c = search saying
