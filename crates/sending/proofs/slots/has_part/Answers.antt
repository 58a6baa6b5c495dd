-- The shifted bits are the bits halved as often as the part says.
-- Assumes nothing.
use Rattle.std.proofs.Common.{rules}
use Rattle.sending.proofs.SlotLaws.{sounds-bit}
use Rattle.sending.proofs.slots.has_part.Goals as goal

pub overflow_shr-result : goal.overflow_shr-result
overflow_shr-result c = search rules

pub returns : goal.returns
returns c = search sounds-bit
