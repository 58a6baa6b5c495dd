-- By keys where they are right, else by bytes.
-- Assumes nothing.
use Rattle.naming.proofs.SearchSteps.{finding}
use Rattle.naming.proofs.searches.find.Goals as goal

pub key_of-key-requires : goal.key_of-key-requires
key_of-key-requires c = search finding

pub find_key-number-requires : goal.find_key-number-requires
find_key-number-requires c = search finding

pub shape_of-keys-then-inside : goal.shape_of-keys-then-inside
shape_of-keys-then-inside c = search finding

pub returns-then-inside : goal.returns-then-inside
returns-then-inside c = search finding

pub find_label-requires : goal.find_label-requires
find_label-requires c = search finding

pub shape_of-keys : goal.shape_of-keys
shape_of-keys c = search finding

pub returns : goal.returns
returns c = search finding
