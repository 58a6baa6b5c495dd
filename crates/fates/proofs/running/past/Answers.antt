-- `past` compares a date and the grace with E(j).
-- Assumes nothing.
use borrow.Author.Rules.{rules}
use Rattle.fates.proofs.FateLaws.{past_is}
use Rattle.fates.proofs.running.past.Goals as goal

pub overflow_add-result : goal.overflow_add-result
overflow_add-result c = search rules

pub start_of-requires : goal.start_of-requires
start_of-requires c = search rules

pub returns : goal.returns
returns c = search (past_is, rules)
