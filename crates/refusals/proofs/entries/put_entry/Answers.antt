-- The mark before the name, where there is one.
-- Assumes nothing.
use Rattle.refusals.proofs.NameLaws.{marking}
use Rattle.refusals.proofs.entries.put_entry.Goals as goal

pub is_entry-requires : goal.is_entry-requires
is_entry-requires c = search marking

pub returns-then-not-is_entry : goal.returns-then-not-is_entry
returns-then-not-is_entry c = search marking

pub put_byte-at-requires : goal.put_byte-at-requires
put_byte-at-requires c = search marking

pub put_name-requires : goal.put_name-requires
put_name-requires c = search marking

pub shape_of-out : goal.shape_of-out
shape_of-out c = search marking

pub returns : goal.returns
returns c = search marking
