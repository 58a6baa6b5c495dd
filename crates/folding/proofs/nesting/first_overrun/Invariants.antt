-- The invariant: the items before i have gone through what they hold. The measure is what is left of the table.
-- Assumes nothing.
use Prim.Native.Nat.{◌-◌}
use Rattle.folding.proofs.HopSteps.{Gone}
use Rattle.folding.proofs.nesting.first_overrun.Given as goal

abbrev pub invariant-loop-i : goal.invariant-loop-i
invariant-loop-i l = Gone l.file l.most l.limit l.i

abbrev pub decreases-loop-i : goal.decreases-loop-i
decreases-loop-i l = l.most - l.i
