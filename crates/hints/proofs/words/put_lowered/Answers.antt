use Rattle.hints.proofs.WordSteps.{lowering}
use Rattle.hints.proofs.words.put_lowered.Goals as goal

pub loop-i-init : goal.loop-i-init
loop-i-init c = search lowering

pub loop-i-preserved : goal.loop-i-preserved
loop-i-preserved c = search lowering
