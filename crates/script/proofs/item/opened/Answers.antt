use Rattle.script.proofs.LineSteps.{braces}
use Rattle.script.proofs.item.opened.Goals.{then-text-at-via-then-text-at, then-text-at-via-else-text-at+then-text-at-ne-OPENING}
use Rattle.script.proofs.item.opened.Goals as goal

pub returns-then-text-at : goal.returns-then-text-at
returns-then-text-at c = elim c.then-text-at.branch [ then-text-at-via-then-text-at w ↦ search braces | then-text-at-via-else-text-at+then-text-at-ne-OPENING w ↦ search braces ]

pub returns : goal.returns
returns c = search braces
