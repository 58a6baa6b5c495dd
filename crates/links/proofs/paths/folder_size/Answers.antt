-- The last slash of the bytes that are left is their last byte, or stands before it.
-- Assumes nothing.
use Rattle.links.proofs.PathSteps.{slashes}
use Rattle.links.proofs.paths.folder_size.Goals as goal

pub returns-then-path-n-eq-SLASH : goal.returns-then-path-n-eq-SLASH
returns-then-path-n-eq-SLASH c = search slashes

pub loop-n-preserved : goal.loop-n-preserved
loop-n-preserved c = search slashes

pub returns : goal.returns
returns c = search slashes
