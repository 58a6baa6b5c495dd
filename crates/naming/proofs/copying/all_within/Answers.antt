use Rattle.naming.proofs.ListSteps.{withins}
use Rattle.naming.proofs.copying.all_within.Goals as goal

pub loop-i-init : goal.loop-i-init
loop-i-init c = search withins

pub overflow_mul-place : goal.overflow_mul-place
overflow_mul-place c = search withins

pub read16-start-requires : goal.read16-start-requires
read16-start-requires c = search withins

pub overflow_add-place : goal.overflow_add-place
overflow_add-place c = search withins

pub read16-size-requires : goal.read16-size-requires
read16-size-requires c = search withins

pub overflow_add-start : goal.overflow_add-start
overflow_add-start c = search withins

pub returns-then-text-start : goal.returns-then-text-start
returns-then-text-start c = search withins

pub loop-i-preserved : goal.loop-i-preserved
loop-i-preserved c = search withins

pub returns : goal.returns
returns c = search withins
