-- The list, the page, then the file of both.
-- Assumes nothing.
use Rattle.reader.proofs.MakeSteps.{writes}
use Rattle.reader.proofs.making.write_file.Goals as goal

pub slice_bounds-fill_list-end : goal.slice_bounds-fill_list-end
slice_bounds-fill_list-end c = search writes

pub slice_bounds-fill_list-end-2 : goal.slice_bounds-fill_list-end-2
slice_bounds-fill_list-end-2 c = search writes

pub fill_list-page-requires : goal.fill_list-page-requires
fill_list-page-requires c = search writes

pub slice_bounds-fill_page-end : goal.slice_bounds-fill_page-end
slice_bounds-fill_page-end c = search writes

pub slice_bounds-fill_page-end-2 : goal.slice_bounds-fill_page-end-2
slice_bounds-fill_page-end-2 c = search writes

pub fill_page-requires : goal.fill_page-requires
fill_page-requires c = search writes

pub slice_bounds-join-end : goal.slice_bounds-join-end
slice_bounds-join-end c = search writes

pub slice_bounds-join-end-2 : goal.slice_bounds-join-end-2
slice_bounds-join-end-2 c = search writes

pub slice_bounds-join-end-3 : goal.slice_bounds-join-end-3
slice_bounds-join-end-3 c = search writes

pub slice_bounds-join-end-4 : goal.slice_bounds-join-end-4
slice_bounds-join-end-4 c = search writes

pub join-requires : goal.join-requires
join-requires c = search writes

pub shape_of-out : goal.shape_of-out
shape_of-out c = search writes

pub returns : goal.returns
returns c = search writes
