-- `perform_run` runs the first sequence of what is left of the page.
-- Assumes nothing.
use Rattle.evaluators.proofs.PageLaws.{runs}
use Rattle.evaluators.proofs.runs.perform_run.Goals as goal

pub overflow_add-from : goal.overflow_add-from
overflow_add-from c = search runs

pub offset_bounds-mem-from : goal.offset_bounds-mem-from
offset_bounds-mem-from c = search runs

pub bounds-mem-from : goal.bounds-mem-from
bounds-mem-from c = search runs

pub item_in-x-requires : goal.item_in-x-requires
item_in-x-requires c = search runs

pub overflow_add-at : goal.overflow_add-at
overflow_add-at c = search runs

pub run_length-n-requires : goal.run_length-n-requires
run_length-n-requires c = search runs

pub overflow_add-n : goal.overflow_add-n
overflow_add-n c = search runs

pub sequence-requires : goal.sequence-requires
sequence-requires c = search runs

pub shape_of-mem : goal.shape_of-mem
shape_of-mem c = search runs

pub returns : goal.returns
returns c = search runs
