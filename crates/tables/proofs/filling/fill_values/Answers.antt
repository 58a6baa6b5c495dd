use Rattle.tables.proofs.FillSteps.{filling}
use Rattle.tables.proofs.filling.fill_values.Goals as goal

pub loop-k-init : goal.loop-k-init
loop-k-init c = search filling

pub item_of-i-requires : goal.item_of-i-requires
item_of-i-requires c = search filling

pub fill_item-n-requires : goal.fill_item-n-requires
fill_item-n-requires c = search filling

pub points_of-used-requires : goal.points_of-used-requires
points_of-used-requires c = search filling

pub overflow_add-used : goal.overflow_add-used
overflow_add-used c = search filling

pub loop-k-preserved : goal.loop-k-preserved
loop-k-preserved c = search filling

pub shape_of-values : goal.shape_of-values
shape_of-values c = search filling

pub returns : goal.returns
returns c = search filling
