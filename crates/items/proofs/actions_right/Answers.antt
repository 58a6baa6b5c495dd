-- The tests of the code are those of the definition, in its order.
-- Assumes nothing.
use Rattle.base.proofs.TestLaws.{tests}
use Rattle.items.specs.Items.{actions_right}
use Rattle.items.proofs.actions_right.Goals as goal

pub returns-then-i-ne0 : goal.returns-then-i-ne0
unfolding actions_right
returns-then-i-ne0 c = search tests depth 9

pub returns : goal.returns
unfolding actions_right
returns c = search tests depth 9
