-- The name of what tells it, the counts and the newline are laid one behind the other.
-- Assumes nothing.
use Rattle.checking.proofs.RunLaws.{lined}
use Rattle.checking.proofs.run.tally_line.Goals as goal

pub returns : goal.returns
returns c = search lined
