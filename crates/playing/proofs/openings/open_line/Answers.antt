-- The opening is made, and its reply is printed.
-- Assumes nothing.
use Rattle.playing.proofs.OpenSteps.{openings}
use Rattle.playing.proofs.openings.open_line.Goals as goal

pub returns : goal.returns
returns c = search openings
