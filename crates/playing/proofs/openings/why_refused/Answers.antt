-- The file check decides, and behind it the number that was given.
-- Assumes nothing.
use Rattle.playing.proofs.OpenSteps.{whys}
use Rattle.playing.proofs.openings.why_refused.Goals as goal

pub returns-then-nineteen : goal.returns-then-nineteen
returns-then-nineteen c = search whys

pub returns-in-Err : goal.returns-in-Err
returns-in-Err c = search whys

pub returns-else-nineteen : goal.returns-else-nineteen
returns-else-nineteen c = search whys
