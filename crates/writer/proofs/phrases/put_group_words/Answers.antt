-- Five pieces are laid one behind the other.
-- Assumes nothing.
use Rattle.writer.proofs.Pieces.{third-byte, fourth-room, fifth-room, five-laid, pieces}
use Rattle.writer.proofs.phrases.put_group_words.Goals as goal

pub put_bytes-a-requires : goal.put_bytes-a-requires
put_bytes-a-requires c = search pieces

pub put_synchrony-b-requires : goal.put_synchrony-b-requires
put_synchrony-b-requires c = search pieces

pub put_byte-c-requires : goal.put_byte-c-requires
put_byte-c-requires c = third-byte _ _ _ _ _ _ _ _ _ _ c.put_synchrony-b.ensures c.put_bytes-a.ensures c.requires

pub put_error-d-requires : goal.put_error-d-requires
put_error-d-requires c = fourth-room _ _ _ _ _ _ _ _ _ _ _ _ _ c.put_byte-c.ensures c.put_synchrony-b.ensures c.put_bytes-a.ensures c.requires

pub put_bytes-requires : goal.put_bytes-requires
put_bytes-requires c = fifth-room _ _ _ _ _ _ _ _ _ _ _ _ _ _ _ _ c.put_error-d.ensures c.put_byte-c.ensures c.put_synchrony-b.ensures c.put_bytes-a.ensures c.requires

pub returns : goal.returns
returns c = five-laid _ _ _ _ _ _ c.put_bytes-a.ensures _ _ _ c.put_synchrony-b.ensures _ _ _ c.put_byte-c.ensures _ _ _ _ _ c.put_error-d.ensures c.put_bytes.ensures
