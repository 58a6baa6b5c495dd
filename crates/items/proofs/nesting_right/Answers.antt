-- The tests of the code are those of the definition, in its order.
-- Assumes nothing.
use Rattle.base.proofs.TestLaws.{tests}
use Rattle.items.specs.Items.{nesting_right}
use Rattle.items.proofs.nesting_right.Goals as goal

pub returns-then-h-gt-DEEPEST : goal.returns-then-h-gt-DEEPEST
unfolding nesting_right
returns-then-h-gt-DEEPEST c = search tests depth 9

pub returns-then-i-ne0 : goal.returns-then-i-ne0
unfolding nesting_right
returns-then-i-ne0 c = search tests depth 9

pub returns : goal.returns
unfolding nesting_right
returns c = search tests depth 9
