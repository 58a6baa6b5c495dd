-- A link is followed only where there were few before it.
-- Assumes nothing.
use Rattle.links.proofs.LinkSteps.{counting}
use Rattle.links.proofs.following.turn_at.Goals as goal

pub returns : goal.returns
returns c = search counting
