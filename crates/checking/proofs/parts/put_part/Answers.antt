-- Whether there is a mark decides.
-- Assumes nothing.
use Rattle.checking.proofs.PartLaws.{parts, part-told, part-short}
use Rattle.checking.proofs.parts.put_part.Goals as goal

pub returns-then-mark-eq0 : goal.returns-then-mark-eq0
returns-then-mark-eq0 c = search parts

pub returns : goal.returns
returns c = (
  part-told _ _ _ _ _ _ _ _ c.if-mark-eq0.false c.put_byte-next.ensures c.put_number.ensures.0,
  part-short _ _ _ _ _ _ _ _ c.if-mark-eq0.false c.put_byte-next.ensures c.put_number.ensures.0 c.requires.0,
)
