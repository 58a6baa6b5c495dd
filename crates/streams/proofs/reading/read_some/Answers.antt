-- A call that is not made again gives what it came to.
-- Assumes nothing.
use Rattle.streams.proofs.CallSteps.{gives-by}
use Rattle.streams.proofs.reading.read_some.Goals as goal

pub returns-then-not-retry : goal.returns-then-not-retry
returns-then-not-retry g c = gives-by _ _ _ _ c.loop.auto.buf c.try_read-o.ensures c.got_by.ensures
