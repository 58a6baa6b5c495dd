-- The tests of the code are those of the definition, in its order.
-- Assumes nothing.
use borrow.Author.Rules.{rules}
use Rattle.extended.specs.Right.{curve_right}
use Rattle.folding.proofs.OwnSteps.{curves}
use Rattle.folding.proofs.own.curve_right.Goals as goal

pub returns-then-i-lt1 : goal.returns-then-i-lt1
unfolding curve_right
returns-then-i-lt1 c = search curves depth 9

pub returns-then-i-gt-LONGEST : goal.returns-then-i-gt-LONGEST
unfolding curve_right
returns-then-i-gt-LONGEST c = search curves depth 9

pub returns-then-i-lt1-2 : goal.returns-then-i-lt1-2
unfolding curve_right
returns-then-i-lt1-2 c = search curves depth 9

pub returns-then-left-i : goal.returns-then-left-i
unfolding curve_right
returns-then-left-i c = search curves depth 9

pub returns-then-i-ne0 : goal.returns-then-i-ne0
unfolding curve_right
returns-then-i-ne0 c = search curves depth 9

pub spans_right-requires : goal.spans_right-requires
spans_right-requires c = search rules

pub returns : goal.returns
unfolding curve_right
returns c = search curves depth 9
