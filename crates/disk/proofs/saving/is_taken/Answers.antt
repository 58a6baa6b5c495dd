-- The number is that of a name that is taken, or another.
-- Assumes nothing.
use Rattle.disk.proofs.SaveSteps.{taking}
use Rattle.disk.proofs.saving.is_taken.Goals as goal

pub returns-in-Err : goal.returns-in-Err
returns-in-Err c = search taking
