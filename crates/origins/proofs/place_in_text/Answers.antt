use Rattle.origins.proofs.PlaceSteps.{telling}
use Rattle.origins.proofs.place_in_text.Goals as goal

pub place_by-requires : goal.place_by-requires
place_by-requires c = search telling

pub returns-in-Err : goal.returns-in-Err
returns-in-Err c = search telling
