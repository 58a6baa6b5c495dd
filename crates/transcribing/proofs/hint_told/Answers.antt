-- What was tallied decides.
-- Assumes nothing.
use Rattle.transcribing.proofs.ToldSteps.{hinting}
use Rattle.transcribing.proofs.hint_told.Goals as goal

pub hint_at-requires : goal.hint_at-requires
hint_at-requires c = search hinting

pub returns-in-Ok : goal.returns-in-Ok
returns-in-Ok c = search hinting

pub returns-in-Err : goal.returns-in-Err
returns-in-Err c = search hinting
