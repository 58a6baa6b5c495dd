-- Each test in turn.
-- Assumes nothing.
use Rattle.hints.proofs.MarkSteps.{fronts}
use Rattle.hints.proofs.marks.is_mark.Goals as goal

pub returns-then-at-ne0 : goal.returns-then-at-ne0
returns-then-at-ne0 c = search fronts

pub returns : goal.returns
returns c = search fronts
