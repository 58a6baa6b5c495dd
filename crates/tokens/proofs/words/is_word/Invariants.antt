-- The invariant: the rest of the word is compared with the rest of the letters.
-- Assumes nothing.
use Rattle.tokens.proofs.WordSteps.{Compared}
use Rattle.tokens.proofs.words.is_word.Given as goal

abbrev pub invariant-loop-i : goal.invariant-loop-i
invariant-loop-i l = Compared l.word l.text l.at l.i
