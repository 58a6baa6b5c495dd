-- The room, the faults of the score itself, then all that is found on the way.
-- Assumes nothing.
use Rattle.unfolder.proofs.CallSteps.{calls}
use Rattle.unfolder.proofs.unfold.Goals as goal

pub returns-then-room-lt-LONGEST_SCORE : goal.returns-then-room-lt-LONGEST_SCORE
returns-then-room-lt-LONGEST_SCORE c = search calls

pub measure-requires : goal.measure-requires
measure-requires c = search calls

pub shape_of-room : goal.shape_of-room
shape_of-room c = search calls

pub returns : goal.returns
returns c = search calls

pub returns-in-Err : goal.returns-in-Err
returns-in-Err c = search calls
