-- An action has nothing within it.
-- Assumes nothing.
use Rattle.writer.proofs.PageSteps.{inner}
use Rattle.writer.proofs.pages.within.Goals as goal

pub returns-then-item-eq0 : goal.returns-then-item-eq0
returns-then-item-eq0 c = search inner

pub returns : goal.returns
returns c = search inner
