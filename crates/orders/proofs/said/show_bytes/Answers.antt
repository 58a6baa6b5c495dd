-- Each turn shows one byte more.
-- Assumes nothing.
use Rattle.orders.proofs.SaidSteps.{showing}
use Rattle.orders.proofs.said.show_bytes.Goals as goal

pub loop-b-preserved : goal.loop-b-preserved
loop-b-preserved c = search showing
