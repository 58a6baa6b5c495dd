-- The line with its own words in the middle.
-- Assumes nothing.
use Rattle.reasons.proofs.ReasonLaws.{lines}
use Rattle.reasons.proofs.line.unwritten_line.Goals as goal

pub returns : goal.returns
returns c = search lines
