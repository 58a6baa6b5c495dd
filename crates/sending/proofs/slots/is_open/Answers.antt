-- Each return is the first of the three tests that fails, or the last of them.
-- Assumes nothing.
use Rattle.std.proofs.Common.{rules}
use Rattle.sending.proofs.SlotLaws.{open-group, open-silent, open-slot}
use Rattle.sending.proofs.slots.is_open.Goals as goal

pub overflow_add-place : goal.overflow_add-place
overflow_add-place c = search rules

pub offset_bounds-mem-place : goal.offset_bounds-mem-place
offset_bounds-mem-place c = search rules

pub bounds-mem-place : goal.bounds-mem-place
bounds-mem-place c = search rules

pub item_in-item-requires : goal.item_in-item-requires
item_in-item-requires c = search rules

pub returns-then-item-ne0 : goal.returns-then-item-ne0
returns-then-item-ne0 c = search open-group

pub bounds-mem-3 : goal.bounds-mem-3
bounds-mem-3 c = search rules

pub has_part-requires : goal.has_part-requires
has_part-requires c = search rules

pub returns-then-not-has_part : goal.returns-then-not-has_part
returns-then-not-has_part c = search open-silent

pub overflow_add-result : goal.overflow_add-result
overflow_add-result c = search rules

pub offset_bounds-mem-place-2 : goal.offset_bounds-mem-place-2
offset_bounds-mem-place-2 c = search rules

pub bounds-mem-place-2 : goal.bounds-mem-place-2
bounds-mem-place-2 c = search rules

pub returns : goal.returns
returns c = search open-slot
