-- `perform` runs one sequence after the other. The invariant: what the page owes from the place on is what it owed from its beginning.
-- The measure is what is left of the page. Assumes nothing.
use mathlib.Core.Path.{◌≡◌}
use Prim.Native.Nat.{◌-◌, ◌≤◌}
use lib.ListN.{length}
use Rattle.evaluators.specs.Inner.{owed_from}
use Rattle.evaluators.specs.Performed.{performed}
use Rattle.evaluators.proofs.perform.Given as goal

abbrev pub invariant-loop-place : goal.invariant-loop-place
invariant-loop-place l = (length l.mem ≡ length l.initial.mem) × (l.place ≤ l.t.size) × (owed_from l.t l.mem l.place ≡ performed l.t l.initial.mem)

abbrev pub decreases-loop-place : goal.decreases-loop-place
decreases-loop-place l = l.t.size - l.place
