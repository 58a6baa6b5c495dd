-- A curve takes as many as it says, any other item none.
-- Assumes nothing.
use borrow.Author.Rules.{rules}
use Rattle.extended.proofs.TakeLaws.{takes-times, takes_none}
use Rattle.extended.proofs.folds.points_of.Goals as goal

pub returns-then-i-eq-CURVE : goal.returns-then-i-eq-CURVE
returns-then-i-eq-CURVE c = search (takes-times, rules)

pub returns : goal.returns
returns c = search (takes_none, rules)
