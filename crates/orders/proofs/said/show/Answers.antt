-- An empty name has its own form, any other is shown byte by byte.
-- Assumes nothing.
use Rattle.orders.proofs.SaidSteps.{shows}
use Rattle.orders.proofs.said.show.Goals as goal

pub returns-then-n-eq0 : goal.returns-then-n-eq0
returns-then-n-eq0 c = search shows

pub returns : goal.returns
returns c = search shows
