-- A call that is not made again takes what it came to.
-- Assumes nothing.
use Rattle.streams.proofs.CallSteps.{takes-by}
use Rattle.streams.proofs.writing.write_some.Goals as goal

pub returns-then-not-retry : goal.returns-then-not-retry
returns-then-not-retry g c = takes-by _ _ _ c.try_write-o.ensures c.took.ensures
