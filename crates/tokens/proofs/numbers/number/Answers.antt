use Rattle.tokens.proofs.NumberSteps.{numbers}
use Rattle.tokens.proofs.numbers.number.Goals as goal

pub loop-i-init : goal.loop-i-init
loop-i-init c = search numbers

pub returns-then-not-is_digit : goal.returns-then-not-is_digit
returns-then-not-is_digit c = search numbers

pub returns-then-i-at-ge-MOST_DIGITS : goal.returns-then-i-at-ge-MOST_DIGITS
returns-then-i-at-ge-MOST_DIGITS c = search numbers

pub overflow_sub-b : goal.overflow_sub-b
overflow_sub-b c = search numbers

pub loop-i-preserved : goal.loop-i-preserved
loop-i-preserved c = search numbers

pub returns : goal.returns
returns c = search numbers
