-- The names are counted on.
-- Assumes nothing.
use Rattle.orders.proofs.UsageSteps.{adding}
use Rattle.orders.proofs.arguments.named.Goals as goal

pub returns : goal.returns
returns c = search adding
