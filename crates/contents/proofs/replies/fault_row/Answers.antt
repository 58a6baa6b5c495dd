-- Each case is its own row, by definition.
-- Assumes nothing.
use mathlib.Core.Path.{◌≡◌}
use Prim.Native.Nat.{ℕ}
use Rattle.contents.specs.declared.Fault.{Fault}
use Rattle.contents.specs.declared.Reply.{Reply}
use Rattle.contents.specs.declared.RuleRow.{RuleRow}
use Rattle.contents.specs.declared.ItemRule.{ItemRule}
use Rattle.contents.specs.declared.Fault.TheVariants.{BadItem}
use Rattle.contents.specs.Replies.{rule_row, fault_row}
use Rattle.contents.proofs.replies.fault_row.Goals as goal

-- the row of a case is the row of the fault that is this case
case-of : (x y : Fault) (r : Reply) → x ≡ y → r ≡ fault_row y → r ≡ fault_row x
case-of x y r e p = rw e p

-- an item's fault has its rule's number
item-case : (x : Fault) (rule : ItemRule) (at : ℕ) (told : RuleRow) (r : Reply) → x ≡ BadItem rule at → told ≡ rule_row rule → r ≡ record { number = told.number; place = at } → r ≡ fault_row x
unfolding fault_row
item-case x rule at told r e p q = rw (e, ← p) q

pub returns-in-FileShort : goal.returns-in-FileShort
unfolding fault_row
returns-in-FileShort c = search case-of

pub returns-in-BadCount : goal.returns-in-BadCount
unfolding fault_row
returns-in-BadCount c = search case-of

pub returns-in-BadOffset : goal.returns-in-BadOffset
unfolding fault_row
returns-in-BadOffset c = search case-of

pub returns-in-BadLength : goal.returns-in-BadLength
unfolding fault_row
returns-in-BadLength c = search case-of

pub returns-in-BadEvent : goal.returns-in-BadEvent
unfolding fault_row
returns-in-BadEvent c = search case-of

pub returns-in-BadItem : goal.returns-in-BadItem
returns-in-BadItem c = search item-case

pub returns-in-BadMessage : goal.returns-in-BadMessage
unfolding fault_row
returns-in-BadMessage c = search case-of

pub returns-in-TextLeft : goal.returns-in-TextLeft
unfolding fault_row
returns-in-TextLeft c = search case-of

pub returns-in-NoMessage : goal.returns-in-NoMessage
unfolding fault_row
returns-in-NoMessage c = search case-of
