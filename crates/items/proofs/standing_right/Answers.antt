-- What each rule told, in the order of the definition.
-- Assumes nothing.
use Rattle.base.proofs.TestLaws.{calls}
use Rattle.items.specs.Inner.{standing_right}
use Rattle.items.proofs.standing_right.Goals as goal

pub returns-then-not-event_right : goal.returns-then-not-event_right
unfolding standing_right
returns-then-not-event_right c = search calls depth 9

pub returns-then-not-nesting_right : goal.returns-then-not-nesting_right
unfolding standing_right
returns-then-not-nesting_right c = search calls depth 9

pub returns-then-not-number_right : goal.returns-then-not-number_right
unfolding standing_right
returns-then-not-number_right c = search calls depth 9

pub returns : goal.returns
unfolding standing_right
returns c = search calls depth 9
