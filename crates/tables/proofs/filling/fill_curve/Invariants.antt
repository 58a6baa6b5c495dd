-- The invariant: the values of the points passed are added, and those of the points left are owed.
-- Assumes nothing.
use Prim.Native.Nat.{◌+◌, ◌-◌}
use Rattle.tables.proofs.FillSteps.{Drawing}
use Rattle.tables.proofs.filling.fill_curve.Given as goal

abbrev pub invariant-loop : goal.invariant-loop
invariant-loop l = Drawing l.file l.initial.values l.from l.points l.step l.n l.at (l.points + 1 - l.counter) l.values l.next
