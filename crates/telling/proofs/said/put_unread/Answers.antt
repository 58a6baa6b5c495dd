-- The line has as much of the name as is told.
-- Assumes nothing.
use Rattle.telling.proofs.SaidSteps.{saying}
use Rattle.telling.proofs.said.put_unread.Goals as goal

pub unread_line-requires : goal.unread_line-requires
unread_line-requires c = search saying

pub returns : goal.returns
returns c = search saying
