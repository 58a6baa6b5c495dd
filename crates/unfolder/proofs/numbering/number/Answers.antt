-- The values of all curves stand.
-- Assumes nothing.
use Rattle.unfolder.proofs.NumberSteps.{numbers}
use Rattle.unfolder.proofs.numbering.number.Goals as goal

pub slice_bounds-fill_values-end : goal.slice_bounds-fill_values-end
slice_bounds-fill_values-end c = search numbers

pub fill_values-count-requires : goal.fill_values-count-requires
fill_values-count-requires c = search numbers

pub slice_bounds-name-end : goal.slice_bounds-name-end
slice_bounds-name-end c = search numbers

pub name-requires : goal.name-requires
name-requires c = (search numbers, search numbers)

pub shape_of-room : goal.shape_of-room
shape_of-room c = search numbers

pub returns : goal.returns
returns c = search numbers
