-- `leave` stores the word for an outcome.
-- Assumes nothing.
use borrow.Author.Rules.{rules}
use Rattle.fates.proofs.OutcomeLaws.{outcome-left}
use Rattle.fates.proofs.outcomes.leave.Goals as goal

pub outcome_word-v-requires : goal.outcome_word-v-requires
outcome_word-v-requires c = search rules

pub overflow_add-to : goal.overflow_add-to
overflow_add-to c = search rules

pub offset_bounds-mem-to : goal.offset_bounds-mem-to
offset_bounds-mem-to c = search rules

pub bounds-mem-to : goal.bounds-mem-to
bounds-mem-to c = search rules

pub shape_of-mem : goal.shape_of-mem
shape_of-mem c = search rules

pub returns : goal.returns
returns c = search (outcome-left, rules)
