-- What each rule told, in the order of the definition.
-- Assumes nothing.
use Rattle.items.specs.Items.{item_right}
use Rattle.items.proofs.BrokenRules.{broken}
use Rattle.items.proofs.broken.rule_broken.Goals as goal

pub returns-then-not-kind_right : goal.returns-then-not-kind_right
unfolding item_right
returns-then-not-kind_right c = search broken depth 12

pub returns-then-not-synchrony_right : goal.returns-then-not-synchrony_right
unfolding item_right
returns-then-not-synchrony_right c = search broken depth 12

pub returns-then-not-error_right : goal.returns-then-not-error_right
unfolding item_right
returns-then-not-error_right c = search broken depth 12

pub returns-then-not-part_right : goal.returns-then-not-part_right
unfolding item_right
returns-then-not-part_right c = search broken depth 12

pub returns-then-not-delay_right : goal.returns-then-not-delay_right
unfolding item_right
returns-then-not-delay_right c = search broken depth 12

pub returns-then-not-event_right : goal.returns-then-not-event_right
unfolding item_right
returns-then-not-event_right c = search broken depth 12

pub returns-then-not-nesting_right : goal.returns-then-not-nesting_right
unfolding item_right
returns-then-not-nesting_right c = search broken depth 12

pub returns-then-not-number_right : goal.returns-then-not-number_right
unfolding item_right
returns-then-not-number_right c = search broken depth 12

pub returns : goal.returns
unfolding item_right
returns c = search broken depth 12
