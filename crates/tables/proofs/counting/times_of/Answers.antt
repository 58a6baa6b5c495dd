-- By the kind, as the definition picks.
-- Assumes nothing.
use Rattle.tables.proofs.WalkSteps.{kinds}
use Rattle.tables.proofs.counting.times_of.Goals as goal

pub returns-then-i-eq-CURVE : goal.returns-then-i-eq-CURVE
returns-then-i-eq-CURVE c = search kinds

pub returns : goal.returns
returns c = search kinds
