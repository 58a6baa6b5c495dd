use Rattle.ascii.proofs.DigitSteps.{filling}
use Rattle.ascii.proofs.laying.put_places.Goals as goal

pub loop-left-preserved : goal.loop-left-preserved
loop-left-preserved c = search filling

pub returns-then-left-eq1 : goal.returns-then-left-eq1
returns-then-left-eq1 c = search filling

pub returns : goal.returns
returns c = search filling
