-- Past the text there is no digit.
-- Assumes nothing.
use Rattle.hints.proofs.MarkSteps.{decimals}
use Rattle.hints.proofs.marks.digit_at.Goals as goal

pub returns-then-text-at : goal.returns-then-text-at
returns-then-text-at c = search decimals
