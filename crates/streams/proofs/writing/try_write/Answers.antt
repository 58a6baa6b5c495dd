-- The answer is within the bytes, and so is what it came to.
-- Assumes nothing.
use Rattle.streams.proofs.CallSteps.{within-moved}
use Rattle.streams.proofs.writing.try_write.Goals as goal

pub returns : goal.returns
returns g c = within-moved _ _ _ c.write-got.ensures.bound c.came_to.ensures
