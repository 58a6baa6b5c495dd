-- A curve's values are those of its points; another item adds none.
-- Assumes nothing.
use Rattle.tables.proofs.FillSteps.{itemising}
use Rattle.tables.proofs.filling.fill_item.Goals as goal

pub points_at-requires : goal.points_at-requires
points_at-requires c = search itemising

pub fill_curve-requires : goal.fill_curve-requires
fill_curve-requires c = search itemising

pub shape_of-values-then-i-eq-CURVE : goal.shape_of-values-then-i-eq-CURVE
shape_of-values-then-i-eq-CURVE c = search itemising

pub returns-then-i-eq-CURVE : goal.returns-then-i-eq-CURVE
returns-then-i-eq-CURVE c = search itemising

pub returns : goal.returns
returns c = search itemising
