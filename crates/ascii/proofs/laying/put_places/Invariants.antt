-- The invariant: the places left of the rest, written to the bytes as they are, give what all of the number's places give of the first bytes.
-- Assumes nothing.
use mathlib.Core.Path.{◌≡◌}
use Prim.Native.Nat.{◌≤◌}
use lib.ListN.{length}
use Rattle.ascii.proofs.DigitSteps.{filled}
use Rattle.ascii.proofs.laying.put_places.Given as goal

abbrev pub invariant-loop-left : goal.invariant-loop-left
invariant-loop-left l = (l.left ≤ l.places) × (length l.out ≡ length l.initial.out) × (filled l.out l.at l.left l.rest ≡ filled l.initial.out l.at l.places l.n)

abbrev pub decreases-loop-left : goal.decreases-loop-left
decreases-loop-left l = l.left
