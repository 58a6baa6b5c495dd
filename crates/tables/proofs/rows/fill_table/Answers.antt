use Rattle.tables.proofs.RowSteps.{tabling}
use Rattle.tables.proofs.rows.fill_table.Goals as goal

pub loop-k-init : goal.loop-k-init
loop-k-init c = search tabling

pub item_of-i-requires : goal.item_of-i-requires
item_of-i-requires c = search tabling

pub count_values-n-requires : goal.count_values-n-requires
count_values-n-requires c = search tabling

pub overflow_add-next : goal.overflow_add-next
overflow_add-next c = search tabling

pub shape_of-table-then-next-gt-MOST_ACTIONS : goal.shape_of-table-then-next-gt-MOST_ACTIONS
shape_of-table-then-next-gt-MOST_ACTIONS c = search tabling

pub returns-then-next-gt-MOST_ACTIONS : goal.returns-then-next-gt-MOST_ACTIONS
returns-then-next-gt-MOST_ACTIONS c = search tabling

pub times_of-times-requires : goal.times_of-times-requires
times_of-times-requires c = search tabling

pub overflow_mul-k : goal.overflow_mul-k
overflow_mul-k c = search tabling

pub put_row-used-requires : goal.put_row-used-requires
put_row-used-requires c = search tabling

pub points_of-used-requires : goal.points_of-used-requires
points_of-used-requires c = search tabling

pub overflow_add-used : goal.overflow_add-used
overflow_add-used c = search tabling

pub loop-k-preserved : goal.loop-k-preserved
loop-k-preserved c = search tabling

pub shape_of-table : goal.shape_of-table
shape_of-table c = search tabling

pub returns : goal.returns
returns c = search tabling
