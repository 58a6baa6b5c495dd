-- The tests of the code are those of the definition, in its order.
-- Assumes nothing.
use Rattle.base.proofs.TestLaws.{tests}
use Rattle.items.specs.Items.{in_order}
use Rattle.items.proofs.in_order.Goals as goal

pub returns-then-i-h : goal.returns-then-i-h
unfolding in_order
returns-then-i-h c = search tests depth 9

pub returns : goal.returns
unfolding in_order
returns c = search tests depth 9
