-- A line that tells of a refusal is one more reason; any other leaves what was known.
-- Assumes nothing.
use Rattle.telling.proofs.RefusalSteps.{after}
use Rattle.telling.proofs.said.after_line.Goals as goal

pub returns-then-not-is_refusal : goal.returns-then-not-is_refusal
returns-then-not-is_refusal c = search after

pub returns : goal.returns
returns c = search after
