-- `run_length` counts the items that go on. The invariant: those counted, and how many follow them, are the run.
-- Assumes nothing.
use mathlib.Core.Path.{◌≡◌}
use Prim.Native.Nat.{◌+◌, ◌-◌, ◌≤◌}
use lib.ListN.{drop}
use Rattle.rules.specs.Page.{run_length}
use Rattle.fates.specs.Places.{items_in}
use Rattle.evaluators.proofs.runs.run_length.Given as goal

abbrev pub invariant-loop-n : goal.invariant-loop-n
invariant-loop-n l = l.n + run_length l.event l.part (drop (l.at + l.n) (items_in l.t l.mem)) ≡ run_length l.event l.part (drop l.at (items_in l.t l.mem))
