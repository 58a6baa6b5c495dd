-- Two pieces are laid one behind the other.
-- Assumes nothing.
use Rattle.writer.proofs.Pieces.{pieces}
use Rattle.writer.proofs.phrases.put_group.Goals as goal

pub put_delayed-next-requires : goal.put_delayed-next-requires
put_delayed-next-requires c = search pieces

pub put_group_words-requires : goal.put_group_words-requires
put_group_words-requires c = search pieces

pub shape_of-out : goal.shape_of-out
shape_of-out c = search pieces

pub returns : goal.returns
returns c = search pieces
