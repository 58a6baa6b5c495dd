-- The numerator, and the denominator where it is not 1.
-- Assumes nothing.
use borrow.Author.Rules.{rules}
use Rattle.writer.proofs.FractionLaws.{product-fits, fractions}
use Rattle.writer.proofs.fractions.put_beats.Goals as goal

pub denominator-d-requires : goal.denominator-d-requires
denominator-d-requires c = search fractions

pub overflow_mul-n : goal.overflow_mul-n
overflow_mul-n c =
    let w = product-fits _ _ c.requires.0 c.denominator-d.ensures.1 in search rules

pub put_decimal-requires : goal.put_decimal-requires
put_decimal-requires c = search fractions

pub shape_of-out-then-d-eq1 : goal.shape_of-out-then-d-eq1
shape_of-out-then-d-eq1 c = search fractions

pub returns-then-d-eq1 : goal.returns-then-d-eq1
returns-then-d-eq1 c = search fractions

pub put_decimal-next-requires : goal.put_decimal-next-requires
put_decimal-next-requires c = search fractions

pub put_byte-over-requires : goal.put_byte-over-requires
put_byte-over-requires c = search fractions

pub put_decimal-requires-2 : goal.put_decimal-requires-2
put_decimal-requires-2 c = search fractions

pub shape_of-out : goal.shape_of-out
shape_of-out c = search fractions

pub returns : goal.returns
returns c = search fractions
