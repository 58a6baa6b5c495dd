-- The invariant: the keys passed are others.
-- Assumes nothing.
use Prim.Native.Nat.{◌-◌}
use Rattle.naming.proofs.SearchSteps.{Seeking}
use Rattle.naming.proofs.searches.find_key.Given as goal

abbrev pub invariant-loop-at : goal.invariant-loop-at
invariant-loop-at l = Seeking l.keys l.n l.key l.at

abbrev pub decreases-loop-at : goal.decreases-loop-at
decreases-loop-at l = l.n - l.at
