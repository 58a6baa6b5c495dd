-- The point's own value is put behind the others.
-- Assumes nothing.
use Rattle.tables.proofs.FillSteps.{putting}
use Rattle.tables.proofs.filling.fill_last.Goals as goal

pub offset_bounds-values-n : goal.offset_bounds-values-n
offset_bounds-values-n c = search putting

pub bounds-values-n : goal.bounds-values-n
bounds-values-n c = search putting

pub overflow_add-result : goal.overflow_add-result
overflow_add-result c = search putting

pub shape_of-values : goal.shape_of-values
shape_of-values c = search putting

pub returns : goal.returns
returns c = search putting
