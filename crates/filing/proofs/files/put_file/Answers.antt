-- The contents, then the bodies.
-- Assumes nothing.
use Rattle.filing.proofs.LayingSteps.{files}
use Rattle.filing.proofs.files.put_file.Goals as goal

pub returns : goal.returns
returns c = search files
