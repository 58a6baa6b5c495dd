-- What is told of sizes within the limits is the sizes.
-- Assumes nothing.
use Rattle.building.proofs.PieceSteps.{tables}
use Rattle.building.proofs.told.size_of.Goals as goal

pub returns-in_default : goal.returns-in_default
returns-in_default c = search tables

pub returns : goal.returns
returns c = search tables
