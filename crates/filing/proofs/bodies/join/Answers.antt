-- The bodies lie at the fronts of their bytes.
-- Assumes nothing.
use Rattle.filing.proofs.BodySteps.{joins}
use Rattle.filing.proofs.bodies.join.Goals as goal

pub returns : goal.returns
returns c = search joins
