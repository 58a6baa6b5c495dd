-- Each is laid behind the one before, within its room.
-- Assumes nothing.
use Rattle.refusals.proofs.TextLaws.{telling}
use Rattle.refusals.proofs.texts.misread_line.Goals as goal

pub returns : goal.returns
returns c = search telling
