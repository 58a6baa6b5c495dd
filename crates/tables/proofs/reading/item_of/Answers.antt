-- The item is read where the definition reads it.
-- Assumes nothing.
use Rattle.tables.proofs.WalkSteps.{reading}
use Rattle.tables.proofs.reading.item_of.Goals as goal

pub items_start-requires : goal.items_start-requires
items_start-requires c = search reading

pub overflow_mul-k : goal.overflow_mul-k
overflow_mul-k c = search reading

pub overflow_add-items_start : goal.overflow_add-items_start
overflow_add-items_start c = search reading

pub folded_at-requires : goal.folded_at-requires
folded_at-requires c = search reading

pub returns : goal.returns
returns c = search reading
