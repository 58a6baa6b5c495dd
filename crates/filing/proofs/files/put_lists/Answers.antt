-- Two bodies.
-- Assumes nothing.
use Rattle.filing.proofs.LayingSteps.{contents}
use Rattle.filing.proofs.files.put_lists.Goals as goal

pub returns : goal.returns
returns c = search contents
