-- The invariant: the messages passed have another name.
-- Assumes nothing.
use mathlib.Core.Path.{◌≡◌}
use Prim.Native.Nat.{◌+◌, ◌-◌, ◌*◌, ◌≤◌}
use Rattle.contents.specs.Limits.{message_size}
use Rattle.unfolding.specs.Messages.{entries_from, number_in}
use Rattle.naming.proofs.searches.find_label.Given as goal

abbrev pub invariant-loop-i : goal.invariant-loop-i
invariant-loop-i l = (l.i ≤ l.n) × (l.i + number_in l.text l.name (entries_from l.entries (message_size * l.i) (l.n - l.i)) ≡ number_in l.text l.name (entries_from l.entries 0 l.n))
