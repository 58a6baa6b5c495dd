-- Among those that stand there, else at the end.
-- Assumes nothing.
use Rattle.naming.proofs.PlaceSteps.{placing}
use Rattle.naming.proofs.places.place_value.Goals as goal

pub slice_bounds-put_value-end : goal.slice_bounds-put_value-end
slice_bounds-put_value-end c = search placing

pub put_value-size-requires : goal.put_value-size-requires
put_value-size-requires c = search placing

pub slice_bounds-digits-end : goal.slice_bounds-digits-end
slice_bounds-digits-end c = search placing

pub slice_bounds-name-end : goal.slice_bounds-name-end
slice_bounds-name-end c = search placing

pub slice_bounds-find-end : goal.slice_bounds-find-end
slice_bounds-find-end c = search placing

pub slice_bounds-find-end-2 : goal.slice_bounds-find-end-2
slice_bounds-find-end-2 c = search placing

pub find-number-requires : goal.find-number-requires
find-number-requires c = search placing

pub shape_of-entries-then-number-n : goal.shape_of-entries-then-number-n
shape_of-entries-then-number-n c = search placing

pub shape_of-labels-then-number-n : goal.shape_of-labels-then-number-n
shape_of-labels-then-number-n c = search placing

pub shape_of-keys-then-number-n : goal.shape_of-keys-then-number-n
shape_of-keys-then-number-n c = search placing

pub returns-then-number-n : goal.returns-then-number-n
returns-then-number-n c = search placing

pub join-requires : goal.join-requires
join-requires c = search placing

pub shape_of-entries : goal.shape_of-entries
shape_of-entries c = search placing

pub shape_of-labels : goal.shape_of-labels
shape_of-labels c = search placing

pub shape_of-keys : goal.shape_of-keys
shape_of-keys c = search placing

pub returns : goal.returns
returns c = search placing
