-- The invariant: the bytes so far are laid in small letters.
-- Assumes nothing.
use Rattle.hints.proofs.WordSteps.{Lowers}
use Rattle.hints.proofs.words.put_lowered.Given as goal

abbrev pub invariant-loop-i : goal.invariant-loop-i
invariant-loop-i l = Lowers l.initial.out l.text l.at l.out l.i
