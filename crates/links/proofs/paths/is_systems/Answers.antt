-- Each case of the definition is a case of the code.
-- Assumes nothing.
use Rattle.links.proofs.PathSteps.{systems}
use Rattle.links.proofs.paths.is_systems.Goals as goal

pub returns-then-begins : goal.returns-then-begins
returns-then-begins c = search systems

pub returns-else-begins : goal.returns-else-begins
returns-else-begins c = search systems
