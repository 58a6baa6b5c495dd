-- An item stands within a group where a group is open.
-- Assumes nothing.
use Rattle.reader.proofs.PageSteps.{events}
use Rattle.reader.proofs.paging.event_of.Goals as goal

pub returns-then-inner-eq0 : goal.returns-then-inner-eq0
returns-then-inner-eq0 c = search events

pub returns : goal.returns
returns c = search events
