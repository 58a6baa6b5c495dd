-- The rows of an item's rules have the numbers 20 to 27, and their fields lie in the item.
-- Assumes nothing.
use Prim.Native.Nat.{◌<◌, ◌≤◌}
use native.Mathlib.Omega.{arith}
use Rattle.contents.specs.declared.ItemRule.{ItemRule}
use Rattle.contents.specs.declared.ItemRule.TheVariants as rule
use Rattle.contents.specs.Limits.{item_size}
use Rattle.contents.specs.Replies.{rule_row}

pub rule-numbered : (r : ItemRule) → (20 ≤ (rule_row r).number) × ((rule_row r).number ≤ 27)
unfolding rule_row
rule-numbered rule.Kind = (omega arith, omega arith)
rule-numbered rule.Synchrony = (omega arith, omega arith)
rule-numbered rule.ErrorWord = (omega arith, omega arith)
rule-numbered rule.Part = (omega arith, omega arith)
rule-numbered rule.Delay = (omega arith, omega arith)
rule-numbered rule.Event = (omega arith, omega arith)
rule-numbered rule.Nesting = (omega arith, omega arith)
rule-numbered rule.Message = (omega arith, omega arith)
rule-numbered rule.Actions = (omega arith, omega arith)

pub field-within : (r : ItemRule) → (rule_row r).offset < item_size
unfolding rule_row
field-within rule.Kind = omega arith
field-within rule.Synchrony = omega arith
field-within rule.ErrorWord = omega arith
field-within rule.Part = omega arith
field-within rule.Delay = omega arith
field-within rule.Event = omega arith
field-within rule.Nesting = omega arith
field-within rule.Message = omega arith
field-within rule.Actions = omega arith
