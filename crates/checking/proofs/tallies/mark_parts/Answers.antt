use Rattle.checking.proofs.TallyLaws.{marking}
use Rattle.checking.proofs.tallies.mark_parts.Goals as goal

pub loop-p-preserved : goal.loop-p-preserved
loop-p-preserved c = search marking

pub returns : goal.returns
returns c = search marking
