-- A word and a number are laid one behind the other.
-- Assumes nothing.
use Rattle.writer.proofs.Pieces.{pieces}
use Rattle.writer.proofs.phrases.put_numbered.Goals as goal

pub put_bytes-next-requires : goal.put_bytes-next-requires
put_bytes-next-requires c = search pieces

pub put_decimal-requires : goal.put_decimal-requires
put_decimal-requires c = search pieces

pub shape_of-out : goal.shape_of-out
shape_of-out c = search pieces

pub returns : goal.returns
returns c = search pieces
