-- The number is laid, and what it counts behind it.
-- Assumes nothing.
use Rattle.checking.proofs.RunLaws.{counting}
use Rattle.checking.proofs.run.put_count.Goals as goal

pub returns : goal.returns
returns c = search counting
