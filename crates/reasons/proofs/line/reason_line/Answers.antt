-- The name, the words and the reason are laid one behind the other.
-- Assumes nothing.
use Rattle.reasons.proofs.ReasonLaws.{error-read, lay-reason}
use Rattle.reasons.proofs.line.reason_line.Goals as goal

pub returns : goal.returns
returns c =
    lay-reason _ _ _ _ _ _ _ c.args.error _ _ _ _ _
    (error-read c.args.error c.ranges.error _ c.error_number.ensures)
    c.put_bytes-named.ensures
    c.put_bytes-at.ensures
    c.put_reason-at.ensures.0
    c.put_byte.ensures
