use Rattle.tokens.proofs.PlaceSteps.{placing}
use Rattle.tokens.proofs.places.place_behind.Goals as goal

pub loop-b-init : goal.loop-b-init
loop-b-init c = search placing

pub loop-b-preserved-then-b-eq-NEWLINE : goal.loop-b-preserved-then-b-eq-NEWLINE
loop-b-preserved-then-b-eq-NEWLINE c = search placing

pub loop-b-preserved : goal.loop-b-preserved
loop-b-preserved c = search placing

pub returns : goal.returns
returns c = search placing
