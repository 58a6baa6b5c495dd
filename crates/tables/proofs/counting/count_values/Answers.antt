-- A curve's values are those of its points; another item has none.
-- Assumes nothing.
use Rattle.tables.proofs.WalkSteps.{reaching}
use Rattle.tables.proofs.counting.count_values.Goals as goal

pub points_at-requires : goal.points_at-requires
points_at-requires c = search reaching

pub count_curve-requires : goal.count_curve-requires
count_curve-requires c = search reaching

pub returns-then-i-eq-CURVE : goal.returns-then-i-eq-CURVE
returns-then-i-eq-CURVE c = search reaching

pub returns : goal.returns
returns c = search reaching
