-- The item's shape is read.
-- Assumes nothing.
use Rattle.building.proofs.PieceSteps.{tables}
use Rattle.building.proofs.told.times_at.Goals as goal

pub shape_at-s-requires : goal.shape_at-s-requires
shape_at-s-requires c = search tables

pub returns : goal.returns
returns c = search tables
