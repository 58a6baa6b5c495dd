-- Each message has its key.
-- Assumes nothing.
use Rattle.naming.proofs.PlaceSteps.{list-keying}
use Rattle.naming.proofs.keys.key_list.Goals as goal

pub slice_bounds-fill_keys-end : goal.slice_bounds-fill_keys-end
slice_bounds-fill_keys-end c = search list-keying

pub fill_keys-requires : goal.fill_keys-requires
fill_keys-requires c = search list-keying

pub all_within-requires : goal.all_within-requires
all_within-requires c = search list-keying

pub shape_of-keys : goal.shape_of-keys
shape_of-keys c = search list-keying

pub returns : goal.returns
returns c = search list-keying
