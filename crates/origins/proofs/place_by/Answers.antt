-- What is looked for by the aim of the entry is its origin.
-- Assumes nothing.
use Rattle.origins.proofs.PlaceSteps.{finding}
use Rattle.origins.proofs.place_by.Goals as goal

pub entry_at-entry-requires : goal.entry_at-entry-requires
entry_at-entry-requires c = search finding

pub aim_at-aim-requires : goal.aim_at-aim-requires
aim_at-aim-requires c = search finding

pub seek-found-requires : goal.seek-found-requires
seek-found-requires c = search finding

pub place_of-requires : goal.place_of-requires
place_of-requires c = search finding

pub returns : goal.returns
returns c = search finding
