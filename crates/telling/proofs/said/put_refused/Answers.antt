-- The line of the refusal has as much of the name as is told.
-- Assumes nothing.
use Rattle.telling.proofs.SaidSteps.{saying}
use Rattle.telling.proofs.said.put_refused.Goals as goal

pub refusal_line-requires : goal.refusal_line-requires
refusal_line-requires c = search saying

pub returns : goal.returns
returns c = search saying
