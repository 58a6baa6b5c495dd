-- The four bodies, two by two.
-- Assumes nothing.
use Rattle.filing.proofs.LayingSteps.{contents}
use Rattle.filing.proofs.files.put_contents.Goals as goal

pub returns : goal.returns
returns c = search contents
