-- The name, the counts and the parts are laid one behind the other.
-- Assumes nothing.
use Rattle.checking.proofs.LineLaws.{lay-accepted}
use Rattle.checking.proofs.line.accepted_line.Goals as goal

pub returns : goal.returns
returns c =
    lay-accepted c.args.file.bytes.now
    c.put_bytes-named.ensures
    c.put_bytes-at.ensures
    c.put_counts-at.ensures.0
    c.put_parts-at.ensures.0
    c.put_byte.ensures
