-- The tests of the code are those of the definition, in its order.
-- Assumes nothing.
use borrow.Author.Rules.{rules}
use Rattle.base.proofs.TestLaws.{tests}
use Rattle.extended.specs.Right.{plain_right}
use Rattle.folding.proofs.own.plain_right.Goals as goal

pub returns-then-i-gt1 : goal.returns-then-i-gt1
unfolding plain_right
returns-then-i-gt1 c = search (tests, rules) depth 9

pub returns-then-i-ne0 : goal.returns-then-i-ne0
unfolding plain_right
returns-then-i-ne0 c = search (tests, rules) depth 9

pub returns : goal.returns
unfolding plain_right
returns c = search (tests, rules) depth 9
