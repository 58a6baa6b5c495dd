-- The invariant: the entries passed are copied.
-- Assumes nothing.
use Prim.Native.Nat.{◌≤◌}
use Rattle.naming.proofs.ListSteps.{Copying}
use Rattle.naming.proofs.copying.copy_entries.Given as goal

abbrev pub invariant-loop-i : goal.invariant-loop-i
invariant-loop-i l = (l.i ≤ l.count) × Copying l.file l.at l.initial.entries l.entries l.i
