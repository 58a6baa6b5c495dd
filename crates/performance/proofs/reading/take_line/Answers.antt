-- The line is read on, and what it printed is what the definition has.
-- Assumes nothing.
use Rattle.performance.proofs.TurnSteps.{turns}
use Rattle.performance.proofs.reading.take_line.Goals as goal

pub returns-clause-told : goal.returns-clause-told
returns-clause-told c = search turns
