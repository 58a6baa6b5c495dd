-- The tests of the code are those of the definition, in its order.
-- Assumes nothing.
use Rattle.base.proofs.TestLaws.{tests}
use Rattle.items.specs.Items.{part_right}
use Rattle.items.proofs.part_right.Goals as goal

pub returns-then-i-gt-LAST_PART : goal.returns-then-i-gt-LAST_PART
unfolding part_right
returns-then-i-gt-LAST_PART c = search tests depth 9

pub returns-then-h-ne1 : goal.returns-then-h-ne1
unfolding part_right
returns-then-h-ne1 c = search tests depth 9

pub returns : goal.returns
unfolding part_right
returns c = search tests depth 9
