-- The name that was laid is the one that the file is made under.
-- Assumes nothing.
use Rattle.disk.proofs.SaveSteps.{naming}
use Rattle.disk.proofs.saving.make.Goals as goal

pub returns : goal.returns
returns c = search naming
