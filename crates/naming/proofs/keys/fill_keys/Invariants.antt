-- The invariant: the messages passed have their keys.
-- Assumes nothing.
use Prim.Native.Nat.{◌≤◌}
use Rattle.naming.proofs.KeySteps.{Keying}
use Rattle.naming.proofs.keys.fill_keys.Given as goal

abbrev pub invariant-loop-i : goal.invariant-loop-i
invariant-loop-i l = (l.i ≤ l.n) × Keying l.text l.entries l.initial.keys l.keys l.i
