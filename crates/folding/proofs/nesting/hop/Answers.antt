use Rattle.folding.proofs.HopSteps.{hopping}
use Rattle.folding.proofs.nesting.hop.Goals as goal

pub loop-k-init : goal.loop-k-init
loop-k-init c = search hopping

pub returns-then-limit-k : goal.returns-then-limit-k
returns-then-limit-k c = search hopping

pub end_at-e-requires : goal.end_at-e-requires
end_at-e-requires c = search hopping

pub returns-then-stop-e : goal.returns-then-stop-e
returns-then-stop-e c = search hopping

pub loop-k-smaller : goal.loop-k-smaller
loop-k-smaller c = search hopping

pub loop-k-preserved : goal.loop-k-preserved
loop-k-preserved c = search hopping

pub returns : goal.returns
returns c = search hopping
