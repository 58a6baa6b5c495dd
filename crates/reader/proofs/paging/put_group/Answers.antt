-- The item's fields fit their bytes.
-- Assumes nothing.
use Rattle.reader.proofs.PageSteps.{rows}
use Rattle.reader.proofs.paging.put_group.Goals as goal

pub event_of-event-requires : goal.event_of-event-requires
event_of-event-requires c = search rows

pub overflow_mul-n : goal.overflow_mul-n
overflow_mul-n c = search rows

pub put_item-requires : goal.put_item-requires
put_item-requires c = search rows

pub shape_of-items : goal.shape_of-items
shape_of-items c = search rows

pub returns : goal.returns
returns c = search rows
