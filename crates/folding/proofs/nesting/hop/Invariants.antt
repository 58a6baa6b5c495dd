-- The invariant: a row of hops from the item reached makes one from the first. The measure is what is left up to the stop.
-- Assumes nothing.
use Prim.Native.Nat.{◌-◌}
use Rattle.folding.proofs.HopSteps.{Hopping}
use Rattle.folding.proofs.nesting.hop.Given as goal

abbrev pub invariant-loop-k : goal.invariant-loop-k
invariant-loop-k l = Hopping l.file l.from l.stop l.k

abbrev pub decreases-loop-k : goal.decreases-loop-k
decreases-loop-k l = l.stop - l.k
