-- The items of a group are fewer than those of what holds it, so the count falls at each call. The invariant: what is owed of the items left completes what was to be
-- laid. Assumes nothing.
use Prim.Native.Nat.{◌≤◌}
use Rattle.score.specs.Piece.{decode}
use Rattle.writer.specs.Layouts.{items_text}
use Rattle.writer.proofs.NestSteps.{Laying}
use Rattle.writer.proofs.nesting.+put_items.Given as goal

abbrev pub decreases-put_items : goal.decreases-put_items
decreases-put_items l = l.count

abbrev pub invariant-loop-left : goal.invariant-loop-left
invariant-loop-left l = Laying l.file.bytes.now l.initial.out l.at (items_text (decode l.file.bytes.now) l.from l.count l.depth) l.out l.next l.i l.left l.depth × (l.left ≤ l.count)

abbrev pub decreases-loop-left : goal.decreases-loop-left
decreases-loop-left l = l.left
