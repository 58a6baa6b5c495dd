-- Each count is read where the definition reads it.
-- Assumes nothing.
use Rattle.extended.proofs.ReadSteps.{reading}
use Rattle.extended.proofs.layout.extent_of.Goals as goal

pub read32-events-requires : goal.read32-events-requires
read32-events-requires c = search reading

pub read32-items-requires : goal.read32-items-requires
read32-items-requires c = search reading

pub read32-messages-requires : goal.read32-messages-requires
read32-messages-requires c = search reading

pub read32-text-requires : goal.read32-text-requires
read32-text-requires c = search reading

pub read32-points-requires : goal.read32-points-requires
read32-points-requires c = search reading

pub returns : goal.returns
returns c = search reading
