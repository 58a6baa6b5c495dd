-- The invariant: what is laid and what is owed of the rows left are together the table.
-- Assumes nothing.
use Rattle.tables.proofs.RowSteps.{Tabling}
use Rattle.tables.proofs.rows.fill_table.Given as goal

abbrev pub invariant-loop-k : goal.invariant-loop-k
invariant-loop-k l = Tabling l.file l.c l.initial.table l.table l.k l.used l.first
