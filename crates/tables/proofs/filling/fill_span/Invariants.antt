-- The invariant: the values of the steps passed are added.
-- Assumes nothing.
use Rattle.tables.proofs.FillSteps.{Spanning}
use Rattle.tables.proofs.filling.fill_span.Given as goal

abbrev pub invariant-loop-j : goal.invariant-loop-j
invariant-loop-j l = Spanning l.initial.values l.n l.v l.w l.step l.span l.values l.j
