-- Bytes laid one behind the other are laid as one.
-- Assumes nothing.
use Rattle.disk.proofs.SaveSteps.{naming}
use Rattle.disk.proofs.saving.name_part.Goals as goal

pub returns : goal.returns
returns c = search naming
