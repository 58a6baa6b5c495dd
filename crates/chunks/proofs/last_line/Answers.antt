-- Nothing where nothing is kept, else the line carried out.
-- Assumes nothing.
use Rattle.chunks.proofs.GoingSteps.{ending}
use Rattle.chunks.proofs.last_line.Goals as goal

pub returns-then-p-lt1 : goal.returns-then-p-lt1
returns-then-p-lt1 c = search ending

pub returns : goal.returns
returns c = search ending
