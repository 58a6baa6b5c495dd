-- The value's digits, behind a minus sign below 0.
-- Assumes nothing.
use Rattle.values.proofs.DigitLaws.{value-laid}
use Rattle.values.proofs.digits.put_value.Goals as goal

pub put_number-requires : goal.put_number-requires
put_number-requires c = search value-laid

pub shape_of-out-then-v-ge-HALF_RANGE : goal.shape_of-out-then-v-ge-HALF_RANGE
shape_of-out-then-v-ge-HALF_RANGE c = search value-laid

pub returns-then-v-ge-HALF_RANGE : goal.returns-then-v-ge-HALF_RANGE
returns-then-v-ge-HALF_RANGE c = search value-laid

pub put_byte-next-requires : goal.put_byte-next-requires
put_byte-next-requires c = search value-laid

pub overflow_sub-v-2 : goal.overflow_sub-v-2
overflow_sub-v-2 c = search value-laid

pub put_number-requires-2 : goal.put_number-requires-2
put_number-requires-2 c = search value-laid

pub shape_of-out : goal.shape_of-out
shape_of-out c = search value-laid

pub returns : goal.returns
returns c = search value-laid
