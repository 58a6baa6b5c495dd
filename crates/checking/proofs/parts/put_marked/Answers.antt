use Rattle.checking.proofs.PartLaws.{markings}
use Rattle.checking.proofs.parts.put_marked.Goals as goal

pub loop-k-init : goal.loop-k-init
loop-k-init c = search markings

pub loop-k-preserved : goal.loop-k-preserved
loop-k-preserved c = search markings
