-- The room is long enough, or is left.
-- Assumes nothing.
use Rattle.writer.proofs.TextSteps.{rooms}
use Rattle.writer.proofs.put_whole.Goals as goal

pub returns-then-room-text : goal.returns-then-room-text
returns-then-room-text c = search rooms

pub put_bytes-requires : goal.put_bytes-requires
put_bytes-requires c = search rooms

pub shape_of-room : goal.shape_of-room
shape_of-room c = search rooms

pub returns : goal.returns
returns c = search rooms
