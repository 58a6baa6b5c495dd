-- The offset, then the count.
-- Assumes nothing.
use Rattle.filing.proofs.LayingSteps.{pairs}
use Rattle.filing.proofs.files.put_body.Goals as goal

pub returns : goal.returns
returns c = search pairs
