-- `last_by` halves as the definition does. The invariant: halving what is left gives the event that is sought.
-- The measure is how many events are left. Assumes nothing.
use Prim.Native.Nat.{◌+◌, ◌≤◌}
use mathlib.Core.Path.{◌≡◌}
use Rattle.fates.specs.Places.{start_at, halved, reading_in}
use Rattle.fates.proofs.dates.last_by.Given as goal

abbrev pub invariant-loop-size : goal.invariant-loop-size
invariant-loop-size l = (1 ≤ l.size) × (l.size ≤ 256) × (l.low + l.size ≤ 257) × (halved 8 (start_at l.r.places l.r.words.now) l.low l.size l.date.0 ≡ (reading_in l.r.places l.r.words.now).last_before l.date.0)

abbrev pub decreases-loop-size : goal.decreases-loop-size
decreases-loop-size l = l.size
