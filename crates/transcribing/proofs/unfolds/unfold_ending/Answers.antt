-- Something was made, or any error came.
-- Assumes nothing.
use Rattle.transcribing.proofs.UnfoldSteps.{unfold-endings}
use Rattle.transcribing.proofs.unfolds.unfold_ending.Goals as goal

pub returns-in-Ok : goal.returns-in-Ok
returns-in-Ok c = search unfold-endings

pub returns-in-Err : goal.returns-in-Err
returns-in-Err c = search unfold-endings
