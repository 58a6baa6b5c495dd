-- The entry and the label at the end, where there is room.
-- Assumes nothing.
use Rattle.naming.proofs.PlaceSteps.{joining}
use Rattle.naming.proofs.places.join.Goals as goal

pub overflow_add-end : goal.overflow_add-end
overflow_add-end c = search joining

pub returns-then-n-ge-MOST_MESSAGES : goal.returns-then-n-ge-MOST_MESSAGES
returns-then-n-ge-MOST_MESSAGES c = search joining

pub returns-then-end-gt-MOST_TEXT : goal.returns-then-end-gt-MOST_TEXT
returns-then-end-gt-MOST_TEXT c = search joining

pub overflow_mul-n : goal.overflow_mul-n
overflow_mul-n c = search joining

pub put_entry-requires : goal.put_entry-requires
put_entry-requires c = search joining

pub put_bytes-requires : goal.put_bytes-requires
put_bytes-requires c = search joining

pub overflow_add-result : goal.overflow_add-result
overflow_add-result c = search joining

pub shape_of-entries : goal.shape_of-entries
shape_of-entries c = search joining

pub shape_of-labels : goal.shape_of-labels
shape_of-labels c = search joining

pub returns : goal.returns
returns c = search joining
