-- The invariant: the items passed are right by themselves, and the points left are those that they leave.
-- Assumes nothing.
use Rattle.folding.proofs.OwnSteps.{Reaching}
use Rattle.folding.proofs.own.first_wrong.Given as goal

abbrev pub invariant-loop-number : goal.invariant-loop-number
invariant-loop-number l = Reaching l.file l.c l.at l.number l.p l.left
