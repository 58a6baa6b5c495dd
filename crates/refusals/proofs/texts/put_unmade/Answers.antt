-- Each is laid behind the one before, within its room.
-- Assumes nothing.
use Rattle.refusals.proofs.TextLaws.{telling}
use Rattle.refusals.proofs.texts.put_unmade.Goals as goal

pub put_place-at-requires : goal.put_place-at-requires
put_place-at-requires c = search telling

pub put_bytes-at-requires : goal.put_bytes-at-requires
put_bytes-at-requires c = search telling

pub refusal_row-requires : goal.refusal_row-requires
refusal_row-requires c = search telling

pub entry_at-requires : goal.entry_at-requires
entry_at-requires c = search telling

pub put_named-requires : goal.put_named-requires
put_named-requires c = search telling

pub shape_of-out : goal.shape_of-out
shape_of-out c = search telling

pub returns : goal.returns
returns c = search telling
