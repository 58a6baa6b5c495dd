-- What is owed from event k on, of the words as they are, is what was owed of the words at entry.
-- Assumes nothing.
use mathlib.Core.Path.{◌≡◌}
use Prim.Native.Nat.{◌+◌, ◌-◌, ◌≤◌}
use lib.ListN.{length}
use Rattle.sequencer.specs.Calls.{took_note}
use Rattle.sequencer.proofs.heard.take_note.Given as goal

abbrev pub invariant-loop-k : goal.invariant-loop-k
invariant-loop-k l = (length l.mem ≡ length l.initial.mem) × (took_note l.event (l.event + 1 - l.k) l.k l.mem ≡ took_note l.event (l.event + 1 - l.first) l.first l.initial.mem)
