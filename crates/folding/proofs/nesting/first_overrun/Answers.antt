use Rattle.folding.proofs.HopSteps.{going}
use Rattle.folding.proofs.nesting.first_overrun.Goals as goal

pub hop-limit-requires : goal.hop-limit-requires
hop-limit-requires c = search going

pub loop-i-init : goal.loop-i-init
loop-i-init c = search going

pub end_at-stop-requires : goal.end_at-stop-requires
end_at-stop-requires c = search going

pub overflow_add-i : goal.overflow_add-i
overflow_add-i c = search going

pub hop-limit-requires-in-loop-i : goal.hop-limit-requires-in-loop-i
hop-limit-requires-in-loop-i c = search going

pub overflow_add-i-in-loop-i : goal.overflow_add-i-in-loop-i
overflow_add-i-in-loop-i c = search going

pub loop-i-smaller : goal.loop-i-smaller
loop-i-smaller c = search going

pub loop-i-preserved : goal.loop-i-preserved
loop-i-preserved c = search going

pub returns : goal.returns
returns c = search going
