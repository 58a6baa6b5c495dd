-- The report is read, and its figures are taken.
-- Assumes nothing.
use Rattle.playing.proofs.CallSteps.{reports}
use Rattle.playing.proofs.sendings.figures_of.Goals as goal

pub returns : goal.returns
returns c = search reports
