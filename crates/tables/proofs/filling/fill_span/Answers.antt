use Rattle.tables.proofs.FillSteps.{spanning}
use Rattle.tables.proofs.filling.fill_span.Goals as goal

pub nonzero_div-count : goal.nonzero_div-count
nonzero_div-count c = search spanning

pub loop-j-init : goal.loop-j-init
loop-j-init c = search spanning

pub curve_value-requires : goal.curve_value-requires
curve_value-requires c = search spanning

pub overflow_add-values : goal.overflow_add-values
overflow_add-values c = search spanning

pub offset_bounds-values-n : goal.offset_bounds-values-n
offset_bounds-values-n c = search spanning

pub bounds-values-n : goal.bounds-values-n
bounds-values-n c = search spanning

pub loop-j-preserved : goal.loop-j-preserved
loop-j-preserved c = search spanning

pub overflow_add-result : goal.overflow_add-result
overflow_add-result c = search spanning

pub shape_of-values : goal.shape_of-values
shape_of-values c = search spanning

pub returns : goal.returns
returns c = search spanning
