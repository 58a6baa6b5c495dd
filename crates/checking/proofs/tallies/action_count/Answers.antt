use Rattle.checking.proofs.TallyLaws.{counting}
use Rattle.checking.proofs.tallies.action_count.Goals as goal

pub loop-p-preserved : goal.loop-p-preserved
loop-p-preserved c = search counting

pub returns : goal.returns
returns c = search counting
