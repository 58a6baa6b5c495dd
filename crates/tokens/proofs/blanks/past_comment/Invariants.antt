-- The invariant: what is left behind the comment from here is what is left behind it.
-- Assumes nothing.
use Rattle.tokens.proofs.BlankSteps.{InComment}
use Rattle.tokens.proofs.blanks.past_comment.Given as goal

abbrev pub invariant-loop-i : goal.invariant-loop-i
invariant-loop-i l = InComment l.text l.at l.i
