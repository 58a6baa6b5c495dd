-- The place behind the bytes before the fault.
-- Assumes nothing.
use Rattle.reader.proofs.MakeSteps.{places}
use Rattle.reader.proofs.making.fault.Goals as goal

pub slice_bounds-place_behind-end : goal.slice_bounds-place_behind-end
slice_bounds-place_behind-end c = search places

pub place_behind-p-requires : goal.place_behind-p-requires
place_behind-p-requires c = search places

pub returns : goal.returns
returns c = search places
