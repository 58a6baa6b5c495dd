-- An action is one, a group none.
-- Assumes nothing.
use Rattle.checking.proofs.TallyLaws.{owning}
use Rattle.checking.proofs.tallies.own.Goals as goal

pub returns-then-i-eq0 : goal.returns-then-i-eq0
returns-then-i-eq0 c = search owning

pub returns : goal.returns
returns c = search owning
