-- The usage is laid, and the spaces behind it.
-- Assumes nothing.
use Rattle.menu.proofs.HelpSteps.{padding}
use Rattle.menu.proofs.listing.put_padded.Goals as goal

pub returns : goal.returns
returns c = search padding
