-- What the rule of its kind told, behind the pad.
-- Assumes nothing.
use borrow.Author.Rules.{rules}
use Rattle.base.proofs.TestLaws.{tests}
use Rattle.extended.specs.Right.{own_right}
use Rattle.folding.proofs.own.own_right.Goals as goal

pub returns-then-i-ne0 : goal.returns-then-i-ne0
unfolding own_right
returns-then-i-ne0 c = search (tests, rules) depth 9

pub loop_right-requires : goal.loop_right-requires
loop_right-requires c = search rules

pub returns-then-i-eq2 : goal.returns-then-i-eq2
unfolding own_right
returns-then-i-eq2 c = search (tests, rules) depth 9

pub curve_right-requires : goal.curve_right-requires
curve_right-requires c = search rules

pub returns-then-i-eq-CURVE : goal.returns-then-i-eq-CURVE
unfolding own_right
returns-then-i-eq-CURVE c = search (tests, rules) depth 9

pub plain_right-requires : goal.plain_right-requires
plain_right-requires c = search rules

pub returns : goal.returns
unfolding own_right
returns c = search (tests, rules) depth 9
