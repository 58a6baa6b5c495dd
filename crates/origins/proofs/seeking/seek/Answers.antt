use Rattle.origins.proofs.SeekSteps.{seeking}
use Rattle.origins.proofs.seeking.seek.Goals as goal

pub loop-stage-init : goal.loop-stage-init
loop-stage-init c = search seeking

pub returns-then-is_over : goal.returns-then-is_over
returns-then-is_over c = search seeking

pub returns-in_default : goal.returns-in_default
returns-in_default c = search seeking

pub returns-then-hits : goal.returns-then-hits
returns-then-hits c = search seeking

pub loop-stage-smaller : goal.loop-stage-smaller
loop-stage-smaller c = search seeking

pub loop-stage-preserved : goal.loop-stage-preserved
loop-stage-preserved c = search seeking
