use Rattle.script.proofs.LineSteps.{closings}
use Rattle.script.proofs.item.closed.Goals as goal

pub returns-then-text-at : goal.returns-then-text-at
returns-then-text-at c = search closings

pub returns-then-text-at-ne-CLOSING : goal.returns-then-text-at-ne-CLOSING
returns-then-text-at-ne-CLOSING c = search closings

pub returns : goal.returns
returns c = search closings
