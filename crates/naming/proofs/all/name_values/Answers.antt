-- The score's own list stands there, with its keys, and the values find their messages in it.
-- Assumes nothing.
use Rattle.naming.proofs.EachSteps.{naming-all}
use Rattle.naming.proofs.all.name_values.Goals as goal

pub copy_list-requires : goal.copy_list-requires
copy_list-requires c = search naming-all

pub slice_bounds-key_list-end : goal.slice_bounds-key_list-end
slice_bounds-key_list-end c = search naming-all

pub key_list-inside-requires : goal.key_list-inside-requires
key_list-inside-requires c = search naming-all

pub slice_bounds-name_each-end : goal.slice_bounds-name_each-end
slice_bounds-name_each-end c = search naming-all

pub name_each-requires : goal.name_each-requires
name_each-requires c = search naming-all

pub shape_of-entries : goal.shape_of-entries
shape_of-entries c = search naming-all

pub shape_of-labels : goal.shape_of-labels
shape_of-labels c = search naming-all

pub shape_of-numbers : goal.shape_of-numbers
shape_of-numbers c = search naming-all

pub returns : goal.returns
returns c = search naming-all
