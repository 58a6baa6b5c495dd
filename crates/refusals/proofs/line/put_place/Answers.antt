-- Whether there is a place decides.
-- Assumes nothing.
use Rattle.refusals.proofs.LineLaws.{places}
use Rattle.refusals.proofs.line.put_place.Goals as goal

pub placed-requires : goal.placed-requires
placed-requires c = search places

pub refusal_row-requires : goal.refusal_row-requires
refusal_row-requires c = search places

pub put_counted-requires : goal.put_counted-requires
put_counted-requires c = search places

pub shape_of-out-then-placed : goal.shape_of-out-then-placed
shape_of-out-then-placed c = search places

pub returns-then-placed : goal.returns-then-placed
returns-then-placed c = search places

pub returns : goal.returns
returns c = search places
