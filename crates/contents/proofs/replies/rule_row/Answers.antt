-- Each case is its own row, by definition.
-- Assumes nothing.
use mathlib.Core.Path.{◌≡◌}
use Rattle.contents.specs.declared.ItemRule.{ItemRule}
use Rattle.contents.specs.declared.RuleRow.{RuleRow}
use Rattle.contents.specs.Replies.{rule_row}
use Rattle.contents.proofs.replies.rule_row.Goals as goal

-- the row of a case is the row of the rule that is this case
case-of : (x y : ItemRule) (r : RuleRow) → x ≡ y → r ≡ rule_row y → r ≡ rule_row x
case-of x y r e p = rw e p

pub returns-in-Kind : goal.returns-in-Kind
unfolding rule_row
returns-in-Kind c = search case-of

pub returns-in-Synchrony : goal.returns-in-Synchrony
unfolding rule_row
returns-in-Synchrony c = search case-of

pub returns-in-ErrorWord : goal.returns-in-ErrorWord
unfolding rule_row
returns-in-ErrorWord c = search case-of

pub returns-in-Part : goal.returns-in-Part
unfolding rule_row
returns-in-Part c = search case-of

pub returns-in-Delay : goal.returns-in-Delay
unfolding rule_row
returns-in-Delay c = search case-of

pub returns-in-Event : goal.returns-in-Event
unfolding rule_row
returns-in-Event c = search case-of

pub returns-in-Nesting : goal.returns-in-Nesting
unfolding rule_row
returns-in-Nesting c = search case-of

pub returns-in-Message : goal.returns-in-Message
unfolding rule_row
returns-in-Message c = search case-of

pub returns-in-Actions : goal.returns-in-Actions
unfolding rule_row
returns-in-Actions c = search case-of
