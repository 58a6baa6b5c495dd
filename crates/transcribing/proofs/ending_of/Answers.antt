-- Something was made, or any error came.
-- Assumes nothing.
use Rattle.transcribing.proofs.ToldSteps.{endings}
use Rattle.transcribing.proofs.ending_of.Goals as goal

pub returns-in-Ok : goal.returns-in-Ok
returns-in-Ok c = search endings

pub returns-in-Err : goal.returns-in-Err
returns-in-Err c = search endings
