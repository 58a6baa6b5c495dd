-- The invariant: what is owed of the page left completes it. Each step takes an item or an event away.
-- Assumes nothing.
use mathlib.Core.Path.{◌≡◌}
use Prim.Native.Nat.{◌+◌, ◌-◌}
use lib.ListN.{length}
use Rattle.contents.specs.Contents.{counts_of}
use Rattle.score.specs.Piece.{decode}
use Rattle.writer.proofs.PageSteps.{Paging}
use Rattle.writer.proofs.pages.put_page.Given as goal

abbrev pub invariant-loop-item : goal.invariant-loop-item
invariant-loop-item l = Paging l.file.bytes.now l.initial.out l.at l.out l.next l.e l.standing l.i × (l.events ≡ (counts_of l.file.bytes.now).events)

abbrev pub decreases-loop-item : goal.decreases-loop-item
decreases-loop-item l = (length (decode l.file.bytes.now).durations - l.e) + (length (decode l.file.bytes.now).items - l.i)
