use Rattle.unfolder.proofs.FinishSteps.{copies}
use Rattle.unfolder.proofs.finishing.copy_durations.Goals as goal

pub loop-i-init : goal.loop-i-init
loop-i-init c = search copies

pub overflow_mul-i : goal.overflow_mul-i
overflow_mul-i c = search copies

pub overflow_add-i : goal.overflow_add-i
overflow_add-i c = search copies

pub read32-d-requires : goal.read32-d-requires
read32-d-requires c = search copies

pub put32-at-requires : goal.put32-at-requires
put32-at-requires c = search copies

pub loop-i-preserved : goal.loop-i-preserved
loop-i-preserved c = search copies

pub shape_of-out : goal.shape_of-out
shape_of-out c = search copies

pub returns : goal.returns
returns c = search copies
