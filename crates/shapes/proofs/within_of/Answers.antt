-- Each kind gives what the definition picks for it.
-- Assumes nothing.
use Rattle.base.proofs.TestLaws.{tests}
use Rattle.shapes.specs.Shapes.{within_of}
use Rattle.shapes.proofs.within_of.Goals as goal

pub returns-then-i-eq0 : goal.returns-then-i-eq0
unfolding within_of
returns-then-i-eq0 c = search tests

pub returns-then-i-eq1 : goal.returns-then-i-eq1
unfolding within_of
returns-then-i-eq1 c = search tests

pub returns-then-i-eq2 : goal.returns-then-i-eq2
unfolding within_of
returns-then-i-eq2 c = search tests

pub returns : goal.returns
unfolding within_of
returns c = search tests
