-- Each body in turn.
-- Assumes nothing.
use Rattle.filing.proofs.LayingSteps.{files}
use Rattle.filing.proofs.files.put_bodies.Goals as goal

pub returns : goal.returns
returns c = search files
