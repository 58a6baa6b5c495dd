use Rattle.evaluators.proofs.RunLaws.{running}
use Rattle.evaluators.proofs.runs.run_length.Goals as goal

pub returns-then-not-goes_on : goal.returns-then-not-goes_on
returns-then-not-goes_on c = search running

pub loop-n-preserved : goal.loop-n-preserved
loop-n-preserved c = search running

pub returns : goal.returns
returns c = search running
