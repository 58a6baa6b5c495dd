use Rattle.building.proofs.PieceSteps.{valuing}
use Rattle.building.proofs.curves.build_values.Goals as goal

pub loop-p-init : goal.loop-p-init
loop-p-init c = search valuing

pub overflow_add-first : goal.overflow_add-first
overflow_add-first c = search valuing

pub offset_bounds-numbers-first : goal.offset_bounds-numbers-first
offset_bounds-numbers-first c = search valuing

pub bounds-numbers-first : goal.bounds-numbers-first
bounds-numbers-first c = search valuing

pub put_send-at-requires : goal.put_send-at-requires
put_send-at-requires c = search valuing

pub loop-p-preserved : goal.loop-p-preserved
loop-p-preserved c = search valuing

pub shape_of-out : goal.shape_of-out
shape_of-out c = search valuing

pub returns : goal.returns
returns c = search valuing
