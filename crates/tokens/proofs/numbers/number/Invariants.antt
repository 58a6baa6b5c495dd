-- The invariant: the digits left make of the sum so far what all of them make.
-- Assumes nothing.
use Rattle.tokens.proofs.NumberSteps.{Digits}
use Rattle.tokens.proofs.numbers.number.Given as goal

abbrev pub invariant-loop-i : goal.invariant-loop-i
invariant-loop-i l = Digits l.text l.at l.i l.sum
