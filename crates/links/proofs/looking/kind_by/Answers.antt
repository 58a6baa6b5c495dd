-- The kind's bits are those of a regular file, of a folder, or others.
-- Assumes nothing.
use Rattle.links.proofs.LookSteps.{kinds}
use Rattle.links.proofs.looking.kind_by.Goals as goal

pub returns-in-32768 : goal.returns-in-32768
returns-in-32768 c = search kinds

pub returns-in-16384 : goal.returns-in-16384
returns-in-16384 c = search kinds

pub returns-in-40960 : goal.returns-in-40960
returns-in-40960 c = search kinds

pub returns-in_default : goal.returns-in_default
returns-in_default c = search kinds
