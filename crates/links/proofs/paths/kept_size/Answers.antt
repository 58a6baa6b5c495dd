-- The target begins with a slash, or not.
-- Assumes nothing.
use Rattle.links.proofs.PathSteps.{keeping}
use Rattle.links.proofs.paths.kept_size.Goals as goal

pub returns-then-begins : goal.returns-then-begins
returns-then-begins c = search keeping

pub returns : goal.returns
returns c = search keeping
