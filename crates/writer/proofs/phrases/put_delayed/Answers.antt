-- Two pieces are laid one behind the other.
-- Assumes nothing.
use Rattle.writer.proofs.Pieces.{pieces}
use Rattle.writer.proofs.phrases.put_delayed.Goals as goal

pub put_indent-next-requires : goal.put_indent-next-requires
put_indent-next-requires c = search pieces

pub put_beats-requires : goal.put_beats-requires
put_beats-requires c = search pieces

pub shape_of-out : goal.shape_of-out
shape_of-out c = search pieces

pub returns : goal.returns
returns c = search pieces
