-- What could not be read decides, then what was refused.
-- Assumes nothing.
use Rattle.checking.proofs.RunLaws.{ends}
use Rattle.checking.proofs.run.ending_of.Goals as goal

pub returns-then-t-gt0 : goal.returns-then-t-gt0
returns-then-t-gt0 c = search ends

pub returns-then-t-gt0-2 : goal.returns-then-t-gt0-2
returns-then-t-gt0-2 c = search ends

pub returns : goal.returns
returns c = search ends
