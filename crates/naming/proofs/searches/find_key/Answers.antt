use Rattle.naming.proofs.SearchSteps.{seeking}
use Rattle.naming.proofs.searches.find_key.Goals as goal

pub offset_bounds-keys-n : goal.offset_bounds-keys-n
offset_bounds-keys-n c = search seeking

pub bounds-keys-n : goal.bounds-keys-n
bounds-keys-n c = search seeking

pub loop-at-init : goal.loop-at-init
loop-at-init c = search seeking

pub offset_bounds-keys-at : goal.offset_bounds-keys-at
offset_bounds-keys-at c = search seeking

pub bounds-keys-at : goal.bounds-keys-at
bounds-keys-at c = search seeking

pub overflow_add-at : goal.overflow_add-at
overflow_add-at c = search seeking

pub loop-at-smaller : goal.loop-at-smaller
loop-at-smaller c = search seeking

pub loop-at-preserved : goal.loop-at-preserved
loop-at-preserved c = search seeking

pub shape_of-keys : goal.shape_of-keys
shape_of-keys c = search seeking

pub returns : goal.returns
returns c = search seeking
