-- The events as they were read, the items as they are told.
-- Assumes nothing.
use Rattle.transcribing.proofs.UnfoldSteps.{folded-counts}
use Rattle.transcribing.proofs.unfolds.counts_folded.Goals as goal

pub events_folded-events-requires : goal.events_folded-events-requires
events_folded-events-requires c = search folded-counts

pub items_told-items-requires : goal.items_told-items-requires
items_told-items-requires c = search folded-counts

pub returns : goal.returns
returns c = search folded-counts
