-- `global_start` is the later of a missed global group's own date and E(j).
-- Assumes nothing.
use borrow.Author.Rules.{rules}
use Rattle.fates.proofs.FateLaws.{global-start-is}
use Rattle.fates.proofs.running.global_start.Goals as goal

pub future_date-requires : goal.future_date-requires
future_date-requires c = search rules

pub returns : goal.returns
returns c = search (global-start-is, rules)
