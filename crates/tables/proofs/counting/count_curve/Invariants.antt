-- The invariant: what was counted, and what the points left come to, is the whole count and one.
-- Assumes nothing.
use Prim.Native.Nat.{◌+◌, ◌-◌}
use Rattle.tables.proofs.CurveCounts.{Counting}
use Rattle.tables.proofs.counting.count_curve.Given as goal

abbrev pub invariant-loop : goal.invariant-loop
invariant-loop l = Counting l.file l.from l.points l.step l.at (l.points + 1 - l.counter) l.n
