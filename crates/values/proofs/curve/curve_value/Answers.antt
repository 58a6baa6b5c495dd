-- The value that the formula gives, by whether the curve rises or falls; every product and sum fits 64 bits.
-- Assumes nothing.
use Rattle.values.proofs.CurveSteps.{curving}
use Rattle.values.proofs.curve.curve_value.Goals as goal

pub overflow_mul-into : goal.overflow_mul-into
overflow_mul-into c = search curving

pub overflow_mul-result : goal.overflow_mul-result
overflow_mul-result c = search curving

pub nonzero_div-result : goal.nonzero_div-result
nonzero_div-result c = search curving

pub overflow_add-result : goal.overflow_add-result
overflow_add-result c = search curving

pub returns-then-v-w : goal.returns-then-v-w
returns-then-v-w c = search curving

pub overflow_sub-result-2 : goal.overflow_sub-result-2
overflow_sub-result-2 c = search curving

pub overflow_mul-result-2 : goal.overflow_mul-result-2
overflow_mul-result-2 c = search curving

pub overflow_sub-result-3 : goal.overflow_sub-result-3
overflow_sub-result-3 c = search curving

pub overflow_add-result-2 : goal.overflow_add-result-2
overflow_add-result-2 c = search curving

pub nonzero_div-result-2 : goal.nonzero_div-result-2
nonzero_div-result-2 c = search curving

pub overflow_sub-result-4 : goal.overflow_sub-result-4
overflow_sub-result-4 c = search curving

pub returns : goal.returns
returns c = search curving
