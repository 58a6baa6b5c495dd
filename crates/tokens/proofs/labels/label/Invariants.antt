-- The invariant: the bytes so far and those left are the label's.
-- Assumes nothing.
use mathlib.Core.Bool.{false}
use lib.ListN.{length}
use Rattle.tokens.proofs.LabelSteps.{Labelled}
use Rattle.tokens.proofs.labels.label.Given as goal

abbrev pub invariant-loop-rest : goal.invariant-loop-rest
invariant-loop-rest l = Labelled l.text l.at l.size false l.rest

abbrev pub decreases-loop-rest : goal.decreases-loop-rest
decreases-loop-rest l = length l.rest
