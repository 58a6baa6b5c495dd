-- The path that the link leads to is no longer than any.
-- Assumes nothing.
use Rattle.links.proofs.LinkSteps.{following}
use Rattle.links.proofs.following.follow.Goals as goal

pub returns : goal.returns
returns c = search following
