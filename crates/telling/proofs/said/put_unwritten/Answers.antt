-- The line has as much of the name as is told.
-- Assumes nothing.
use Rattle.telling.proofs.SaidSteps.{saying}
use Rattle.telling.proofs.said.put_unwritten.Goals as goal

pub unwritten_line-requires : goal.unwritten_line-requires
unwritten_line-requires c = search saying

pub returns : goal.returns
returns c = search saying
