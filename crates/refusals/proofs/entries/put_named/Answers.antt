-- The entry's name is laid, and the field's behind it.
-- Assumes nothing.
use Rattle.refusals.proofs.NameLaws.{fields}
use Rattle.refusals.proofs.entries.put_named.Goals as goal

pub put_entry-at-requires : goal.put_entry-at-requires
put_entry-at-requires c = search fields

pub put_refusal_field-requires : goal.put_refusal_field-requires
put_refusal_field-requires c = search fields

pub shape_of-out : goal.shape_of-out
shape_of-out c = search fields

pub returns : goal.returns
returns c = search fields
