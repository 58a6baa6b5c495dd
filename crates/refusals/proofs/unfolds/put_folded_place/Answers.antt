-- The place and then its item, within their rooms.
-- Assumes nothing.
use Rattle.refusals.proofs.UnfoldLaws.{folded-places}
use Rattle.refusals.proofs.unfolds.put_folded_place.Goals as goal

pub returns-then-place-eq0 : goal.returns-then-place-eq0
returns-then-place-eq0 c = search folded-places

pub put_counted-at-requires : goal.put_counted-at-requires
put_counted-at-requires c = search folded-places

pub folded_entry-requires : goal.folded_entry-requires
folded_entry-requires c = search folded-places

pub put_entry-requires : goal.put_entry-requires
put_entry-requires c = search folded-places

pub shape_of-out : goal.shape_of-out
shape_of-out c = search folded-places

pub returns : goal.returns
returns c = search folded-places
