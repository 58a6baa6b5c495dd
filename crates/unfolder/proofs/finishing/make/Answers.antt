-- The file that is checked is the one that was made of the bodies.
-- Assumes nothing.
use Rattle.unfolder.proofs.FinishSteps.{makes}
use Rattle.unfolder.proofs.finishing.make.Goals as goal

pub slice_bounds-copy_durations-end : goal.slice_bounds-copy_durations-end
slice_bounds-copy_durations-end c = search makes

pub copy_durations-requires : goal.copy_durations-requires
copy_durations-requires c = search makes

pub slice_bounds-join-end : goal.slice_bounds-join-end
slice_bounds-join-end c = search makes

pub join-size-requires : goal.join-size-requires
join-size-requires c = search makes

pub slice_bounds-settle-end : goal.slice_bounds-settle-end
slice_bounds-settle-end c = search makes

pub slice_bounds-settle-end-2 : goal.slice_bounds-settle-end-2
slice_bounds-settle-end-2 c = search makes

pub settle-requires : goal.settle-requires
settle-requires c = search makes

pub shape_of-file : goal.shape_of-file
shape_of-file c = search makes

pub shape_of-room : goal.shape_of-room
shape_of-room c = search makes

pub returns : goal.returns
returns c = search makes
