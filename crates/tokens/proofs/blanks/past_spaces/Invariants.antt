-- The invariant: all passed so far are blanks.
-- Assumes nothing.
use Rattle.tokens.specs.Asked.{InBlanks}
use Rattle.tokens.proofs.blanks.past_spaces.Given as goal

abbrev pub invariant-loop-i : goal.invariant-loop-i
invariant-loop-i l = InBlanks l.text l.at l.i
