-- The item that is laid is the definition's.
-- Assumes nothing.
use Rattle.building.proofs.PieceSteps.{pieces}
use Rattle.building.proofs.groups.put_pass.Goals as goal

pub put_group-requires : goal.put_group-requires
put_group-requires c = search pieces

pub shape_of-out : goal.shape_of-out
shape_of-out c = search pieces

pub returns : goal.returns
returns c = search pieces
