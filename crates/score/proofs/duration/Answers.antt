-- An accepted file has the event within it, and its duration in its range.
-- Assumes nothing.
use borrow.Author.Rules.{rules}
use Rattle.score.proofs.Readers.{event-within, event_read}
use Rattle.score.proofs.duration.Goals as goal

pub overflow_mul-k : goal.overflow_mul-k
overflow_mul-k c = let w = event-within _ _ c.requires in search rules

pub overflow_add-k : goal.overflow_add-k
overflow_add-k c = let w = event-within _ _ c.requires in search rules

pub read32-requires : goal.read32-requires
read32-requires c = let w = event-within _ _ c.requires in search rules

pub returns : goal.returns
returns c = search (event_read, rules)
