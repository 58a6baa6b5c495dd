-- The number and the line's end are laid one behind the other.
-- Assumes nothing.
use Rattle.writer.proofs.Pieces.{pieces}
use Rattle.writer.proofs.phrases.put_part.Goals as goal

pub put_numbered-next-requires : goal.put_numbered-next-requires
put_numbered-next-requires c = search pieces

pub put_byte-requires : goal.put_byte-requires
put_byte-requires c = search pieces

pub shape_of-out : goal.shape_of-out
shape_of-out c = search pieces

pub returns : goal.returns
returns c = search pieces
