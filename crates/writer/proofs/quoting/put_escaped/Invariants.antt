-- The invariant: what is owed of the bytes left completes the label.
-- Assumes nothing.
use Rattle.writer.proofs.QuoteSteps.{Escaping}
use Rattle.writer.proofs.quoting.put_escaped.Given as goal

abbrev pub invariant-loop-b : goal.invariant-loop-b
invariant-loop-b l = Escaping l.initial.out l.at l.label l.out l.next l.b-index
