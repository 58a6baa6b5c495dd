-- The invariant: the values of the items passed are added, and those of the items left are owed.
-- Assumes nothing.
use Rattle.tables.proofs.FillSteps.{Filling}
use Rattle.tables.proofs.filling.fill_values.Given as goal

abbrev pub invariant-loop-k : goal.invariant-loop-k
invariant-loop-k l = Filling l.file l.c l.initial.values l.values l.k l.used l.n
