-- Each field is read where the definition reads it.
-- Assumes nothing.
use Rattle.extended.proofs.ReadSteps.{reading}
use Rattle.extended.proofs.folds.folded_at.Goals as goal

pub byte-kind-requires : goal.byte-kind-requires
byte-kind-requires c = search reading

pub overflow_add-at : goal.overflow_add-at
overflow_add-at c = search reading

pub byte-synchrony-requires : goal.byte-synchrony-requires
byte-synchrony-requires c = search reading

pub overflow_add-at-2 : goal.overflow_add-at-2
overflow_add-at-2 c = search reading

pub byte-error-requires : goal.byte-error-requires
byte-error-requires c = search reading

pub overflow_add-at-3 : goal.overflow_add-at-3
overflow_add-at-3 c = search reading

pub byte-part-requires : goal.byte-part-requires
byte-part-requires c = search reading

pub overflow_add-at-4 : goal.overflow_add-at-4
overflow_add-at-4 c = search reading

pub delay_at-delay-requires : goal.delay_at-delay-requires
delay_at-delay-requires c = search reading

pub overflow_add-at-5 : goal.overflow_add-at-5
overflow_add-at-5 c = search reading

pub read16-event-requires : goal.read16-event-requires
read16-event-requires c = search reading

pub overflow_add-at-6 : goal.overflow_add-at-6
overflow_add-at-6 c = search reading

pub read16-last-requires : goal.read16-last-requires
read16-last-requires c = search reading

pub overflow_add-at-7 : goal.overflow_add-at-7
overflow_add-at-7 c = search reading

pub read32-each-requires : goal.read32-each-requires
read32-each-requires c = search reading

pub overflow_add-at-8 : goal.overflow_add-at-8
overflow_add-at-8 c = search reading

pub read16-times-requires : goal.read16-times-requires
read16-times-requires c = search reading

pub overflow_add-at-9 : goal.overflow_add-at-9
overflow_add-at-9 c = search reading

pub read16-pad-requires : goal.read16-pad-requires
read16-pad-requires c = search reading

pub returns : goal.returns
returns c = search reading
