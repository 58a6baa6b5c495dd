-- The walk from the table's start, and how it ended.
-- Assumes nothing.
use Rattle.items.proofs.WalkEnds.{ends}
use Rattle.items.proofs.walk.check_items.Goals as goal

pub returns-in_err-walk_items : goal.returns-in_err-walk_items
returns-in_err-walk_items c = search ends

pub returns : goal.returns
returns c = search ends
