-- The tests of the code are those of the definition, in its order.
-- Assumes nothing.
use borrow.Author.Rules.{rules}
use Rattle.base.proofs.TestLaws.{tests}
use Rattle.extended.specs.Folds.{held_by}
use Rattle.folding.proofs.nesting.held_by.Goals as goal

pub returns-then-i-eq1 : goal.returns-then-i-eq1
unfolding held_by
returns-then-i-eq1 c = search (tests, rules) depth 9

pub returns-then-i-eq2 : goal.returns-then-i-eq2
unfolding held_by
returns-then-i-eq2 c = search (tests, rules) depth 9

pub returns : goal.returns
unfolding held_by
returns c = search (tests, rules) depth 9
