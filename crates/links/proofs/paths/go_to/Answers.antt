-- What is kept of the link's path stays before the target, where both have room.
-- Assumes nothing.
use Rattle.links.proofs.PathSteps.{going}
use Rattle.links.proofs.paths.go_to.Goals as goal

pub returns-then-kept-target : goal.returns-then-kept-target
returns-then-kept-target c = search going

pub returns : goal.returns
returns c = search going
