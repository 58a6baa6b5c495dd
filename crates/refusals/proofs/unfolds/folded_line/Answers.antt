-- Each is laid behind the one before, within its room.
-- Assumes nothing.
use Rattle.refusals.proofs.UnfoldLaws.{folded-lines}
use Rattle.refusals.proofs.unfolds.folded_line.Goals as goal

pub returns : goal.returns
returns c = search folded-lines
