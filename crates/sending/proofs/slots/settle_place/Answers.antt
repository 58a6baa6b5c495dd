-- An open place is set to the slot of its outcome, any other left.
-- Assumes nothing.
use Rattle.std.proofs.Common.{rules}
use Rattle.sending.proofs.SlotLaws.{place-left, place_set}
use Rattle.sending.proofs.slots.settle_place.Goals as goal

pub is_open-requires : goal.is_open-requires
is_open-requires c = search rules

pub shape_of-mem-then-not-is_open : goal.shape_of-mem-then-not-is_open
shape_of-mem-then-not-is_open c = search rules

pub returns-then-not-is_open : goal.returns-then-not-is_open
returns-then-not-is_open c = search place-left

pub overflow_add-place : goal.overflow_add-place
overflow_add-place c = search rules

pub offset_bounds-mem-place : goal.offset_bounds-mem-place
offset_bounds-mem-place c = search rules

pub bounds-mem-place : goal.bounds-mem-place
bounds-mem-place c = search rules

pub slot_by-requires : goal.slot_by-requires
slot_by-requires c = search rules

pub overflow_add-mem : goal.overflow_add-mem
overflow_add-mem c = search rules

pub offset_bounds-mem-place-2 : goal.offset_bounds-mem-place-2
offset_bounds-mem-place-2 c = search rules

pub bounds-mem-place-2 : goal.bounds-mem-place-2
bounds-mem-place-2 c = search rules

pub shape_of-mem : goal.shape_of-mem
shape_of-mem c = search rules

pub returns : goal.returns
returns c = search place_set
