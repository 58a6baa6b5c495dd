-- Four pieces are laid one behind the other.
-- Assumes nothing.
use Rattle.writer.proofs.Pieces.{third-room, fourth-byte, four-laid, pieces}
use Rattle.writer.proofs.phrases.put_message.Goals as goal

pub put_numbered-a-requires : goal.put_numbered-a-requires
put_numbered-a-requires c = search pieces

pub put_byte-b-requires : goal.put_byte-b-requires
put_byte-b-requires c = search pieces

pub put_quoted-c-requires : goal.put_quoted-c-requires
put_quoted-c-requires c = third-room _ _ _ _ _ _ _ _ _ _ c.put_byte-b.ensures c.put_numbered-a.ensures c.requires

pub put_byte-requires : goal.put_byte-requires
put_byte-requires c = fourth-byte _ _ _ _ _ _ _ _ _ _ _ _ _ c.put_quoted-c.ensures c.put_byte-b.ensures c.put_numbered-a.ensures c.requires

pub returns : goal.returns
returns c = four-laid _ _ _ _ _ _ c.put_numbered-a.ensures _ _ _ c.put_byte-b.ensures _ _ _ c.put_quoted-c.ensures _ _ c.put_byte.ensures
