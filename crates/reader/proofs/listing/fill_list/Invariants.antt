-- The invariant: what is laid and what is owed of the labels left are together those of all.
-- Assumes nothing.
use Prim.Native.Nat.{◌-◌}
use lib.ListN.{length}
use Rattle.reader.proofs.ListSteps.{FillingList}
use Rattle.reader.proofs.listing.fill_list.Given as goal

abbrev pub invariant-loop-s : goal.invariant-loop-s
invariant-loop-s l = FillingList l.text l.initial.entries l.initial.labels l.entries l.labels l.at l.n l.from

abbrev pub decreases-loop-s : goal.decreases-loop-s
decreases-loop-s l = length l.text - l.at
