use Rattle.origins.proofs.PlaceSteps.{placing}
use Rattle.origins.proofs.place_of.Goals as goal

pub returns-in-None : goal.returns-in-None
returns-in-None c = search placing

pub returns-in-Some : goal.returns-in-Some
returns-in-Some c = search placing
