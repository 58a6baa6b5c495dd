-- What each rule told, in the order of the definition.
-- Assumes nothing.
use Rattle.base.proofs.TestLaws.{calls}
use Rattle.items.specs.Inner.{fields_right}
use Rattle.items.proofs.fields_right.Goals as goal

pub returns-then-not-kind_right : goal.returns-then-not-kind_right
unfolding fields_right
returns-then-not-kind_right c = search calls depth 9

pub returns-then-not-synchrony_right : goal.returns-then-not-synchrony_right
unfolding fields_right
returns-then-not-synchrony_right c = search calls depth 9

pub returns-then-not-error_right : goal.returns-then-not-error_right
unfolding fields_right
returns-then-not-error_right c = search calls depth 9

pub returns-then-not-part_right : goal.returns-then-not-part_right
unfolding fields_right
returns-then-not-part_right c = search calls depth 9

pub returns : goal.returns
unfolding fields_right
returns c = search calls depth 9
