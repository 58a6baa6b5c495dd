-- The smaller of what lies within the item and what is left.
-- Assumes nothing.
use Rattle.building.proofs.PieceSteps.{tables}
use Rattle.building.proofs.told.body_at.Goals as goal

pub shape_at-requires : goal.shape_at-requires
shape_at-requires c = search tables

pub within_of-requires : goal.within_of-requires
within_of-requires c = search tables

pub returns : goal.returns
returns c = search tables
