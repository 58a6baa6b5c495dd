use Rattle.evaluators.proofs.PageLaws.{pages}
use Rattle.evaluators.proofs.perform.Goals as goal

pub loop-place-init : goal.loop-place-init
loop-place-init c = search pages

pub perform_run-n-requires : goal.perform_run-n-requires
perform_run-n-requires c = search pages

pub overflow_add-place : goal.overflow_add-place
overflow_add-place c = search pages

pub loop-place-smaller : goal.loop-place-smaller
loop-place-smaller c = search pages

pub loop-place-preserved : goal.loop-place-preserved
loop-place-preserved c = search pages

pub shape_of-mem : goal.shape_of-mem
shape_of-mem c = search pages

pub returns : goal.returns
returns c = search pages
