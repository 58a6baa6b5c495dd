-- The invariant: the actions counted and those left are all of them.
-- Assumes nothing.
use mathlib.Core.Path.{◌≡◌}
use Prim.Native.Nat.{◌+◌, ◌≤◌}
use lib.ListN.{drop}
use Rattle.score.specs.Piece.{decode}
use Rattle.checking.specs.Tallies.{actions_in}
use Rattle.checking.proofs.tallies.action_count.Given as goal

abbrev pub invariant-loop-p : goal.invariant-loop-p
invariant-loop-p l = (l.n ≤ l.p) × (l.n + actions_in (drop l.p (decode l.file).items) ≡ actions_in (decode l.file).items)
