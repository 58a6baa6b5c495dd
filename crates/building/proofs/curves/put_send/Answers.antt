-- The item that is laid is the definition's.
-- Assumes nothing.
use Rattle.building.proofs.PieceSteps.{pieces}
use Rattle.building.proofs.curves.put_send.Goals as goal

pub put_item-requires : goal.put_item-requires
put_item-requires c = search pieces

pub shape_of-out : goal.shape_of-out
shape_of-out c = search pieces

pub returns : goal.returns
returns c = search pieces
