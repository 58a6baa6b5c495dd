-- `item_word` adds the fields up.
-- Assumes nothing.
use borrow.Author.Rules.{rules}
use Rattle.fates.specs.Fields.{item_word}
use Rattle.fates.proofs.words.item_word.Goals as goal

pub overflow_mul-low : goal.overflow_mul-low
overflow_mul-low c = search rules

pub overflow_add-low : goal.overflow_add-low
overflow_add-low c = search rules

pub overflow_mul-low-2 : goal.overflow_mul-low-2
overflow_mul-low-2 c = search rules

pub overflow_add-low-2 : goal.overflow_add-low-2
overflow_add-low-2 c = search rules

pub overflow_mul-low-3 : goal.overflow_mul-low-3
overflow_mul-low-3 c = search rules

pub overflow_add-low-3 : goal.overflow_add-low-3
overflow_add-low-3 c = search rules

pub overflow_mul-result : goal.overflow_mul-result
overflow_mul-result c = search rules

pub overflow_add-result : goal.overflow_add-result
overflow_add-result c = search rules

pub overflow_mul-result-2 : goal.overflow_mul-result-2
overflow_mul-result-2 c = search rules

pub overflow_add-result-2 : goal.overflow_add-result-2
overflow_add-result-2 c = search rules

pub overflow_mul-result-3 : goal.overflow_mul-result-3
overflow_mul-result-3 c = search rules

pub overflow_add-result-3 : goal.overflow_add-result-3
overflow_add-result-3 c = search rules

pub returns : goal.returns
unfolding item_word
returns c = search rules
