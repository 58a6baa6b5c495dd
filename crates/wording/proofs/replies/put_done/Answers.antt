-- The bytes are the line, by definition.
-- Assumes nothing.
use Rattle.wording.proofs.RowLaws.{lining}
use Rattle.wording.proofs.replies.put_done.Goals as goal

pub put_bytes-requires : goal.put_bytes-requires
put_bytes-requires c = search lining

pub shape_of-out : goal.shape_of-out
shape_of-out c = search lining

pub returns : goal.returns
returns c = search lining
