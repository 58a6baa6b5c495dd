-- The key of the label where it lies within the text.
-- Assumes nothing.
use Rattle.naming.proofs.KeySteps.{key-reading}
use Rattle.naming.proofs.keys.key_at.Goals as goal

pub read16-start-requires : goal.read16-start-requires
read16-start-requires c = search key-reading

pub overflow_add-at : goal.overflow_add-at
overflow_add-at c = search key-reading

pub read16-size-requires : goal.read16-size-requires
read16-size-requires c = search key-reading

pub overflow_add-end : goal.overflow_add-end
overflow_add-end c = search key-reading

pub returns-then-text-end : goal.returns-then-text-end
returns-then-text-end c = search key-reading

pub slice_bounds-key_of-count : goal.slice_bounds-key_of-count
slice_bounds-key_of-count c = search key-reading

pub slice_bounds-key_of-start : goal.slice_bounds-key_of-start
slice_bounds-key_of-start c = search key-reading

pub slice_bounds-key_of-end : goal.slice_bounds-key_of-end
slice_bounds-key_of-end c = search key-reading

pub key_of-requires : goal.key_of-requires
key_of-requires c = search key-reading

pub returns : goal.returns
returns c = search key-reading
