-- The invariant: the messages left decide.
-- Assumes nothing.
use mathlib.Core.Path.{◌≡◌}
use Prim.Native.Nat.{◌-◌, ◌*◌, ◌≤◌}
use Rattle.contents.specs.Limits.{message_size}
use Rattle.unfolding.specs.Messages.{entries_from}
use Rattle.naming.specs.Inner.{all_within}
use Rattle.naming.proofs.copying.all_within.Given as goal

abbrev pub invariant-loop-i : goal.invariant-loop-i
invariant-loop-i l = (l.i ≤ l.n) × (all_within l.text (entries_from l.entries (message_size * l.i) (l.n - l.i)) ≡ all_within l.text (entries_from l.entries 0 l.n))
