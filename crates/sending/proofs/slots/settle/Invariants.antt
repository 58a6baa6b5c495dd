-- What is owed from the place on, of the words as they are, is what was owed of the words at entry.
-- Assumes nothing.
use Rattle.std.proofs.Common.{◌≡◌, ◌-◌, ◌≤◌, length}
use Rattle.sending.specs.Sending.{settled}
use Rattle.sending.proofs.slots.settle.Given as goal

abbrev pub invariant-loop-place : goal.invariant-loop-place
invariant-loop-place l = (length l.mem ≡ length l.initial.mem) × (settled l.clock.0 (l.count - l.place) l.place l.mem ≡ settled l.clock.0 l.count 0 l.initial.mem)
