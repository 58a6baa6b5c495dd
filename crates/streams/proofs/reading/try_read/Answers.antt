-- The answer is within the buffer, and so is what it came to.
-- Assumes nothing.
use Rattle.streams.proofs.CallSteps.{read-moved}
use Rattle.streams.proofs.reading.try_read.Goals as goal

pub returns : goal.returns
returns g c = read-moved _ _ _ _ c.read-got.auto.buf c.read-got.ensures.bound c.came_to.ensures
