-- The bytes printed are compared.
-- Assumes nothing.
use Rattle.telling.proofs.RefusalSteps.{printing}
use Rattle.telling.proofs.said.is_unopened.Goals as goal

pub returns : goal.returns
returns c = search printing
