-- The item is read, and its end is behind all within it.
-- Assumes nothing.
use Rattle.folding.proofs.HopSteps.{ending}
use Rattle.folding.proofs.nesting.end_at.Goals as goal

pub items_start-requires : goal.items_start-requires
items_start-requires c = search ending

pub overflow_mul-k : goal.overflow_mul-k
overflow_mul-k c = search ending

pub overflow_add-items_start : goal.overflow_add-items_start
overflow_add-items_start c = search ending

pub folded_at-i-requires : goal.folded_at-i-requires
folded_at-i-requires c = search ending

pub held_by-requires : goal.held_by-requires
held_by-requires c = search ending

pub overflow_add-result : goal.overflow_add-result
overflow_add-result c = search ending

pub overflow_add-result-2 : goal.overflow_add-result-2
overflow_add-result-2 c = search ending

pub returns : goal.returns
returns c = search ending
