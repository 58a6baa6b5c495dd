-- The span is read where the definition reads it.
-- Assumes nothing.
use Rattle.tables.proofs.WalkSteps.{reading}
use Rattle.tables.proofs.reading.span_at.Goals as goal

pub overflow_add-at : goal.overflow_add-at
overflow_add-at c = search reading

pub read32-requires : goal.read32-requires
read32-requires c = search reading

pub returns : goal.returns
returns c = search reading
