-- The word is read where the definition reads it.
-- Assumes nothing.
use Rattle.building.proofs.PieceSteps.{tables}
use Rattle.building.proofs.told.first_at.Goals as goal

pub returns : goal.returns
returns c = search tables
