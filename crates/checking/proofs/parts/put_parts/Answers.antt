-- Whether any part was laid decides.
-- Assumes nothing.
use mathlib.Core.Path.{refl}
use Rattle.checking.proofs.PartLaws.{parts_none, parts-some}
use Rattle.checking.proofs.parts.put_parts.Goals as goal

pub returns-then-next-at : goal.returns-then-next-at
returns-then-next-at c =
    parts_none _ _ _ _ _ _ _ refl c.mark_parts.ensures c.put_marked-next.ensures.0 _ _ c.if-next-at.true c.put_bytes.ensures

pub returns : goal.returns
returns c =
    (parts-some _ _ _ _ _ _ _ refl c.mark_parts.ensures c.put_marked-next.ensures.0 c.if-next-at.false, c.put_marked-next.ensures.1)
