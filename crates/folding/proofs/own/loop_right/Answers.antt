-- The tests of the code are those of the definition, in its order.
-- Assumes nothing.
use borrow.Author.Rules.{rules}
use Rattle.base.specs.Tests.{between}
use Rattle.base.proofs.TestLaws.{tests}
use Rattle.extended.specs.Right.{loop_right}
use Rattle.folding.proofs.own.loop_right.Goals as goal

pub returns-then-i-gt-LONGEST : goal.returns-then-i-gt-LONGEST
unfolding loop_right
returns-then-i-gt-LONGEST c = search (tests, rules) depth 9

pub returns-then-i-lt1 : goal.returns-then-i-lt1
unfolding loop_right
returns-then-i-lt1 c = search (tests, rules) depth 9

pub returns : goal.returns
unfolding loop_right between
returns c = search (tests, rules) depth 9
