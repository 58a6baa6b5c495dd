-- One range decides.
-- Assumes nothing.
use native.Mathlib.Omega.{arith}
use Rattle.base.proofs.RangeLaws.{told_in, told_under, told_over}
use Rattle.ascii.specs.Numbers.{is_digit}
use Rattle.ascii.proofs.numbers.is_digit.Goals as goal

pub returns-in-48-to-57 : goal.returns-in-48-to-57
unfolding is_digit
returns-in-48-to-57 c = told_in _ _ _ (omega arith) (omega arith)

pub returns-in_default : goal.returns-in_default
unfolding is_digit
returns-in_default c = told_under _ _ _ (omega arith)

pub returns-in_default-2 : goal.returns-in_default-2
unfolding is_digit
returns-in_default-2 c = told_over _ _ _ (omega arith)
