-- An opening that was granted is told apart first.
-- Assumes nothing.
use Rattle.telling.proofs.RefusalSteps.{printing}
use Rattle.telling.proofs.said.is_refusal.Goals as goal

pub returns-then-begins : goal.returns-then-begins
returns-then-begins c = search printing

pub returns : goal.returns
returns c = search printing
