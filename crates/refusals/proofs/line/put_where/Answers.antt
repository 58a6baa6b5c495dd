-- The place is laid, and behind it its entry and an item's field.
-- Assumes nothing.
use Rattle.refusals.proofs.LineLaws.{wheres}
use Rattle.refusals.proofs.line.put_where.Goals as goal

pub put_place-at-requires : goal.put_place-at-requires
put_place-at-requires c = search wheres

pub entry_of-requires : goal.entry_of-requires
entry_of-requires c = search wheres

pub put_named-requires : goal.put_named-requires
put_named-requires c = search wheres

pub shape_of-out : goal.shape_of-out
shape_of-out c = search wheres

pub returns : goal.returns
returns c = search wheres
