-- Euclid's steps. The invariant: the pair serves and divides as the first one does.
-- Assumes nothing.
use Rattle.writer.specs.Fractions.{Pair}
use Rattle.writer.proofs.fractions.common.Given as goal

abbrev pub invariant-loop-b : goal.invariant-loop-b
invariant-loop-b l = Pair l.grains l.a l.b

abbrev pub decreases-loop-b : goal.decreases-loop-b
decreases-loop-b l = l.b
