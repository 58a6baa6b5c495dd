-- Four pieces are laid one behind the other.
-- Assumes nothing.
use Rattle.writer.proofs.Pieces.{third-room, fourth-byte, four-laid, pieces}
use Rattle.writer.proofs.phrases.put_event.Goals as goal

pub put_bytes-a-requires : goal.put_bytes-a-requires
put_bytes-a-requires c = search pieces

pub put_beats-b-requires : goal.put_beats-b-requires
put_beats-b-requires c = search pieces

pub put_numbered-c-requires : goal.put_numbered-c-requires
put_numbered-c-requires c = third-room _ _ _ _ _ _ _ _ _ _ c.put_beats-b.ensures c.put_bytes-a.ensures c.requires.1

pub put_byte-requires : goal.put_byte-requires
put_byte-requires c = fourth-byte _ _ _ _ _ _ _ _ _ _ _ _ _ c.put_numbered-c.ensures c.put_beats-b.ensures c.put_bytes-a.ensures c.requires.1

pub returns : goal.returns
returns c = four-laid _ _ _ _ _ _ c.put_bytes-a.ensures _ _ _ c.put_beats-b.ensures _ _ _ c.put_numbered-c.ensures _ _ c.put_byte.ensures
