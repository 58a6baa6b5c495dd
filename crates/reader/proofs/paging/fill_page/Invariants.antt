-- The invariant: what the machine makes of the lines left, from the items laid, is the page.
-- Assumes nothing.
use Prim.Native.Nat.{◌-◌}
use lib.ListN.{length}
use Rattle.reader.proofs.PageSteps.{FillingPage}
use Rattle.reader.proofs.paging.fill_page.Given as goal

abbrev pub invariant-loop-s : goal.invariant-loop-s
invariant-loop-s l = FillingPage l.text l.initial.durations l.initial.items l.durations l.items l.at l.stage l.events l.part l.n l.inner

abbrev pub decreases-loop-s : goal.decreases-loop-s
decreases-loop-s l = length l.text - l.at
