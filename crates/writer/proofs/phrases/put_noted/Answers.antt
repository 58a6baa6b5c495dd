-- Three pieces are laid one behind the other.
-- Assumes nothing.
use Rattle.writer.proofs.Pieces.{third-byte, three-laid, pieces}
use Rattle.writer.proofs.phrases.put_noted.Goals as goal

pub put_bytes-a-requires : goal.put_bytes-a-requires
put_bytes-a-requires c = search pieces

pub put_bytes-b-requires : goal.put_bytes-b-requires
put_bytes-b-requires c = search pieces

pub put_byte-requires : goal.put_byte-requires
put_byte-requires c = third-byte _ _ _ _ _ _ _ _ _ _ c.put_bytes-b.ensures c.put_bytes-a.ensures c.requires

pub returns : goal.returns
returns c = three-laid _ _ _ _ _ _ c.put_bytes-a.ensures _ _ _ c.put_bytes-b.ensures _ _ c.put_byte.ensures
