use native.Mathlib.Omega.{arith}
use Rattle.evaluators.proofs.WalkLaws.{top-step, lent-on, bodies}
use Rattle.evaluators.proofs.runs.missed_top.Goals as goal

pub loop-left-init : goal.loop-left-init
loop-left-init c = (omega arith, search bodies, omega arith, omega arith, omega arith, search bodies)

pub overflow_add-from : goal.overflow_add-from
overflow_add-from c = search bodies

pub offset_bounds-mem-from : goal.offset_bounds-mem-from
offset_bounds-mem-from c = search bodies

pub bounds-mem-from : goal.bounds-mem-from
bounds-mem-from c = search bodies

pub delay_in-requires : goal.delay_in-requires
delay_in-requires c = search bodies

pub overflow_add-date : goal.overflow_add-date
overflow_add-date c = search bodies

pub item-n-requires : goal.item-n-requires
item-n-requires c = search bodies

pub overflow_add-place : goal.overflow_add-place
overflow_add-place c = search bodies

pub overflow_sub-left : goal.overflow_sub-left
overflow_sub-left c = search bodies

pub loop-left-smaller : goal.loop-left-smaller
loop-left-smaller c = search bodies

pub loop-left-preserved : goal.loop-left-preserved
loop-left-preserved c = (omega arith, search lent-on, omega arith, omega arith, omega arith, search top-step)

pub shape_of-mem : goal.shape_of-mem
shape_of-mem c = search bodies

pub returns : goal.returns
returns c = search bodies
