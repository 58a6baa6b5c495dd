-- The value is read where the definition reads it, and raised.
-- Assumes nothing.
use Rattle.tables.proofs.WalkSteps.{reading}
use Rattle.tables.proofs.reading.value_at.Goals as goal

pub read32-requires : goal.read32-requires
read32-requires c = search reading

pub raised-requires : goal.raised-requires
raised-requires c = search reading

pub returns : goal.returns
returns c = search reading
