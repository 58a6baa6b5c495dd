-- Three pieces are laid one behind the other.
-- Assumes nothing.
use Rattle.writer.proofs.Pieces.{third-room, three-laid, pieces}
use Rattle.writer.proofs.phrases.put_send.Goals as goal

pub put_delayed-a-requires : goal.put_delayed-a-requires
put_delayed-a-requires c = search pieces

pub put_numbered-b-requires : goal.put_numbered-b-requires
put_numbered-b-requires c = search pieces

pub put_noted-requires : goal.put_noted-requires
put_noted-requires c = third-room _ _ _ _ _ _ _ _ _ _ c.put_numbered-b.ensures c.put_delayed-a.ensures c.requires.1

pub returns : goal.returns
returns c = three-laid _ _ _ _ _ _ c.put_delayed-a.ensures _ _ _ c.put_numbered-b.ensures _ _ c.put_noted.ensures
