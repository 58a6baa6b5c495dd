-- The score's entries and text stand at the fronts.
-- Assumes nothing.
use Rattle.naming.proofs.ListSteps.{lists}
use Rattle.naming.proofs.copying.copy_list.Goals as goal

pub messages_start-at-requires : goal.messages_start-at-requires
messages_start-at-requires c = search lists

pub text_start-start-requires : goal.text_start-start-requires
text_start-start-requires c = search lists

pub points_start-end-requires : goal.points_start-end-requires
points_start-end-requires c = search lists

pub copy_entries-requires : goal.copy_entries-requires
copy_entries-requires c = search lists

pub slice_bounds-put_bytes-count : goal.slice_bounds-put_bytes-count
slice_bounds-put_bytes-count c = search lists

pub slice_bounds-put_bytes-start : goal.slice_bounds-put_bytes-start
slice_bounds-put_bytes-start c = search lists

pub slice_bounds-put_bytes-end : goal.slice_bounds-put_bytes-end
slice_bounds-put_bytes-end c = search lists

pub put_bytes-requires : goal.put_bytes-requires
put_bytes-requires c = search lists

pub shape_of-entries : goal.shape_of-entries
shape_of-entries c = search lists

pub shape_of-labels : goal.shape_of-labels
shape_of-labels c = search lists

pub returns : goal.returns
returns c = (search lists, search lists)
