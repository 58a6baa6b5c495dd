-- One range decides.
-- Assumes nothing.
use native.Mathlib.Omega.{arith}
use Rattle.base.proofs.RangeLaws.{told_in, told_under, told_over}
use Rattle.tokens.specs.Bytes.{is_letter}
use Rattle.tokens.proofs.words.is_letter.Goals as goal

pub returns-in-97-to-122 : goal.returns-in-97-to-122
unfolding is_letter
returns-in-97-to-122 c = told_in _ _ _ (omega arith) (omega arith)

pub returns-in_default : goal.returns-in_default
unfolding is_letter
returns-in_default c = told_under _ _ _ (omega arith)

pub returns-in_default-2 : goal.returns-in_default-2
unfolding is_letter
returns-in_default-2 c = told_over _ _ _ (omega arith)
