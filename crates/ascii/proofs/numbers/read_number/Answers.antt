use Rattle.ascii.proofs.NumberSteps.{reading}
use Rattle.ascii.proofs.numbers.read_number.Goals as goal
use Rattle.ascii.proofs.numbers.read_number.Goals.{then-is_empty-via-then-is_empty, then-is_empty-via-else-is_empty+then-bytes-gt-MOST_DIGITS}

pub returns-then-is_empty : goal.returns-then-is_empty
returns-then-is_empty c = elim c.then-is_empty.branch [ then-is_empty-via-then-is_empty w ↦ search reading | then-is_empty-via-else-is_empty+then-bytes-gt-MOST_DIGITS w ↦ search reading ]

pub loop-b-init : goal.loop-b-init
loop-b-init c = search reading

pub returns-then-not-is_digit : goal.returns-then-not-is_digit
returns-then-not-is_digit c = search reading

pub overflow_sub-b : goal.overflow_sub-b
overflow_sub-b c = search reading

pub loop-b-preserved : goal.loop-b-preserved
loop-b-preserved c = search reading

pub returns : goal.returns
returns c = search reading
