-- The report's figures, or zeros.
-- Assumes nothing.
use Rattle.playing.proofs.CallSteps.{ends}
use Rattle.playing.proofs.end_line.Goals as goal

pub returns : goal.returns
returns c = search ends
