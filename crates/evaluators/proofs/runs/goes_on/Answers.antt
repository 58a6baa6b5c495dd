-- `goes_on` tells an item's event and part.
-- Assumes nothing.
use Rattle.evaluators.proofs.RunLaws.{going}
use Rattle.evaluators.proofs.runs.goes_on.Goals as goal

pub item_in-x-requires : goal.item_in-x-requires
item_in-x-requires c = search going

pub returns-then-x-eq0 : goal.returns-then-x-eq0
returns-then-x-eq0 c = search going

pub returns-then-x-event : goal.returns-then-x-event
returns-then-x-event c = search going

pub returns : goal.returns
returns c = search going
