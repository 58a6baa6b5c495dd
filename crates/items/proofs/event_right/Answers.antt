-- The tests of the code are those of the definition, in its order.
-- Assumes nothing.
use Rattle.base.proofs.TestLaws.{tests}
use Rattle.items.specs.Items.{event_right}
use Rattle.items.proofs.event_right.Goals as goal

pub returns-then-h-ne1 : goal.returns-then-h-ne1
unfolding event_right
returns-then-h-ne1 c = search tests depth 9

pub returns-then-i-lt1 : goal.returns-then-i-lt1
unfolding event_right
returns-then-i-lt1 c = search tests depth 9

pub returns-then-c-i : goal.returns-then-c-i
unfolding event_right
returns-then-c-i c = search tests depth 9

pub returns : goal.returns
unfolding event_right
returns c = search tests depth 9
