-- The counts alone decide first.
-- Assumes nothing.
use Rattle.unfolder.proofs.SizeSteps.{measures}
use Rattle.unfolder.proofs.sizing.measure.Goals as goal

pub extent_of-c-requires : goal.extent_of-c-requires
extent_of-c-requires c = search measures

pub few_enough-requires : goal.few_enough-requires
few_enough-requires c = search measures

pub returns-then-not-few_enough : goal.returns-then-not-few_enough
returns-then-not-few_enough c = search measures

pub slice_bounds-size_page-end : goal.slice_bounds-size_page-end
slice_bounds-size_page-end c = search measures

pub size_page-requires : goal.size_page-requires
size_page-requires c = search measures

pub shape_of-room : goal.shape_of-room
shape_of-room c = search measures

pub returns : goal.returns
returns c = search measures
