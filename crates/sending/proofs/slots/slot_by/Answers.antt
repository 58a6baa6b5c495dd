-- Each return is one case of an outcome; a delay below 2^35 grains is a small number on the clock.
-- Assumes nothing.
use Rattle.std.proofs.Common.{rules}
use Rattle.sending.proofs.SlotLaws.{slot-open, slot-dropped, slot-played, wait-small}
use Rattle.sending.proofs.slots.slot_by.Goals as goal

pub returns-then-outcome-eq0 : goal.returns-then-outcome-eq0
returns-then-outcome-eq0 c = search slot-open

pub returns-then-outcome-eq1 : goal.returns-then-outcome-eq1
returns-then-outcome-eq1 c = search slot-dropped

pub overflow_sub-outcome : goal.overflow_sub-outcome
overflow_sub-outcome c = search rules

pub on_clock-wait-requires : goal.on_clock-wait-requires
on_clock-wait-requires c = search rules

pub overflow_add-result : goal.overflow_add-result
overflow_add-result c = let h = wait-small _ _ c.on_clock-wait.ensures in search rules

pub overflow_add-result-2 : goal.overflow_add-result-2
overflow_add-result-2 c = let h = wait-small _ _ c.on_clock-wait.ensures in search rules

pub returns : goal.returns
returns c = search slot-played
