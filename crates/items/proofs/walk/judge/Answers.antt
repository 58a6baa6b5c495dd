-- What the rules told of the item, as the definition picks its step or its fault.
-- Assumes nothing.
use Rattle.items.proofs.WalkSteps.{judges}
use Rattle.items.proofs.walk.judge.Goals as goal

pub returns-then-not-item_right-clause-told : goal.returns-then-not-item_right-clause-told
returns-then-not-item_right-clause-told c = search judges

pub accepted-requires : goal.accepted-requires
accepted-requires c = search judges

pub returns-clause-told : goal.returns-clause-told
returns-clause-told c = search judges
