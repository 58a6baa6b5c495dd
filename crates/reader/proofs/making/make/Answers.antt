-- The file that is checked is the one that was made of the text.
-- Assumes nothing.
use Rattle.reader.proofs.MakeSteps.{makes}
use Rattle.reader.proofs.making.make.Goals as goal

pub write_file-size-requires : goal.write_file-size-requires
write_file-size-requires c = search makes

pub slice_bounds-settle-end : goal.slice_bounds-settle-end
slice_bounds-settle-end c = search makes

pub slice_bounds-settle-end-2 : goal.slice_bounds-settle-end-2
slice_bounds-settle-end-2 c = search makes

pub settle-requires : goal.settle-requires
settle-requires c = search makes

pub shape_of-file : goal.shape_of-file
shape_of-file c = search makes

pub shape_of-room : goal.shape_of-room
shape_of-room c = search makes

pub returns : goal.returns
returns c = search makes
