-- The item is looked at where it is there.
-- Assumes nothing.
use Rattle.writer.proofs.PageSteps.{standing}
use Rattle.writer.proofs.pages.stands.Goals as goal

pub item_count-items-requires : goal.item_count-items-requires
item_count-items-requires c = search standing

pub returns-then-items-i : goal.returns-then-items-i
returns-then-items-i c = search standing

pub read_item-item-requires : goal.read_item-item-requires
read_item-item-requires c = search standing

pub returns : goal.returns
returns c = search standing
