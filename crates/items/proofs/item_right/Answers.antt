-- What each half of the rules told, in the order of the definition.
-- Assumes nothing.
use Rattle.base.proofs.TestLaws.{calls}
use Rattle.items.proofs.BrokenRules.{right-halves}
use Rattle.items.proofs.item_right.Goals as goal

pub returns-then-not-fields_right : goal.returns-then-not-fields_right
returns-then-not-fields_right c = rw right-halves (search calls depth 9)

pub returns : goal.returns
returns c = rw right-halves (search calls depth 9)
