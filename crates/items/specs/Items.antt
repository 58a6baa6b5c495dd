-- "Item: 12 bytes: kind, synchrony, error word, part, delay (u32), event (u16), last (u16)." What an item is, and which items are right where.
use Rattle.std.specs.Prelude.{ℕ, zero, suc, ◌+◌, ◌*◌, Bool, true, List, [], ◌∷◌, length, take, drop, leb, ltb, eqb, Result, Ok, Err}
use Rattle.page.specs.declared.Item.{Item}
use Rattle.base.specs.Tests.{pick, every, between}
use Rattle.base.specs.Checks.{Check, fine, refused, need, first_fault}
use Rattle.contents.specs.declared.Fault.{Fault}
use Rattle.contents.specs.declared.Fault.TheVariants.{BadItem}
use Rattle.contents.specs.declared.ItemRule.{ItemRule}
use Rattle.contents.specs.declared.ItemRule.TheVariants as rule
use Rattle.contents.specs.declared.Counts.{Counts}
use Rattle.contents.specs.Limits.{item_size, longest, most_actions, last_part, deepest}
use Rattle.contents.specs.Bytes.{byte_at, u16_at, u32_at}
use Rattle.contents.specs.Contents.{items_at}
use Rattle.contents.specs.Replies.{rule_row}
use Rattle.items.specs.declared.Setting.{Setting}

unfoldable pub item_at : List ℕ → ℕ → Item
item_at f at =
    record {
      kind = byte_at f at;
      synchrony = byte_at f (at + 1);
      error = byte_at f (at + 2);
      part = byte_at f (at + 3);
      delay = record { 0 = u32_at f (at + 4) };
      event = u16_at f (at + 8);
      last = u16_at f (at + 10);
    }

-- The count items from the byte at on.
unfoldable pub items_from : List ℕ → ℕ → ℕ → List Item
items_from f at zero = []
items_from f at (suc count) = item_at f at ∷ items_from f (at + item_size) count

-- "0 action, 1 group"
abbrev pub is_action : Item → Bool
is_action i = eqb i.kind 0

-- "Top items have depth 1"
abbrev pub is_top : Setting → Bool
is_top h = eqb h.depth 1

-- ---- the rules of one item. A setting says what is asked of it: at depth 1 the event and part of the top item before, deeper the group's part.

abbrev pub kind_right : Item → Bool
kind_right i = leb i.kind 1

-- "synchrony (0 loose, 1 tight), error word (0 local, 1 global, 2 partial, 3 causal)"; "For an action both words are 0"
unfoldable pub synchrony_right : Item → Bool
synchrony_right i = pick (is_action i) (eqb i.synchrony 0) (leb i.synchrony 1)

unfoldable pub error_right : Item → Bool
error_right i = pick (is_action i) (eqb i.error 0) (leb i.error 3)

-- "part (0 to 15)"; "An item within a group has event 0 and its group's part."
unfoldable pub part_right : Item → Setting → Bool
part_right i h = every (leb i.part last_part ∷ pick (is_top h) true (eqb i.part h.part) ∷ [])

-- "delay (u32, 0 to 5,040,000)"
abbrev pub delay_right : Item → Bool
delay_right i = leb i.delay.0 longest

-- "Top items stand by event and, within an event, by part."
unfoldable pub in_order : Setting → Item → Bool
in_order h i = pick (eqb i.event h.event) (leb h.part i.part) (ltb h.event i.event)

-- "A top item names its event."
unfoldable pub event_right : Item → Counts → Setting → Bool
event_right i c h = pick (is_top h) (every (between 1 c.events i.event ∷ in_order h i ∷ [])) (eqb i.event 0)

-- "depth 8 is accepted, 9 refused. A group ends within the group that holds it, a top group within the table": left items follow it there.
unfoldable pub nesting_right : Item → Setting → ℕ → Bool
nesting_right i h left = every (leb h.depth deepest ∷ pick (is_action i) true (leb i.last left) ∷ [])

-- "last is its message number, counted from 0 and below the message count"
unfoldable pub number_right : Item → Counts → Bool
number_right i c = pick (is_action i) (ltb i.last c.messages) true

-- "at most 1,024 actions": so many stand before it on the page.
unfoldable pub actions_right : Item → ℕ → Bool
actions_right i actions = pick (is_action i) (ltb actions most_actions) true

-- "by the first rule broken, checked in this order: kind, words, part (its group's too), delay, event (range, 0 inside groups, order by event and part), nesting, message, number of actions"
unfoldable pub item_right : Item → Counts → Setting → ℕ → ℕ → Check ItemRule
item_right i c h left actions =
    first_fault (
    need (kind_right i) rule.Kind
    ∷ need (synchrony_right i) rule.Synchrony
    ∷ need (error_right i) rule.ErrorWord
    ∷ need (part_right i h) rule.Part
    ∷ need (delay_right i) rule.Delay
    ∷ need (event_right i c h) rule.Event
    ∷ need (nesting_right i h left) rule.Nesting
    ∷ need (number_right i c) rule.Message
    ∷ need (actions_right i actions) rule.Actions
    ∷ []
    )

-- ---- the whole table, in the order of the page

-- "For a group last is how many following items lie within it, deeper ones too; it may be 0."
unfoldable pub within_of : Item → ℕ
within_of i = pick (is_action i) 0 i.last

-- How many actions an item is itself.
unfoldable pub own_of : Item → ℕ
own_of i = pick (is_action i) 1 0

-- What is asked of the item after i, and of the items within it.
unfoldable pub next : Item → Setting → Setting
next i h = record { depth = h.depth; event = i.event; part = i.part }

unfoldable pub inside : Item → Setting → Setting
inside i h = record { depth = h.depth + 1; event = 0; part = i.part }

-- The one walk, then the other, from as many actions as the first found.
unfoldable pub onward : Result ℕ Fault → (ℕ → Result ℕ Fault) → Result ℕ Fault
onward (Ok n) more = more n
onward (Err x) more = Err x

-- An item at the byte at that breaks a rule: at "the place of the field".
abbrev pub broken_at : (at : ℕ) → ItemRule → Fault
broken_at at r = BadItem r (at + (rule_row r).offset)

-- On from an item at the byte at; from a wrong one no further.
unfoldable pub on_from : Check ItemRule → (at : ℕ) → Result ℕ Fault → Result ℕ Fault
on_from fine at w = w
on_from (refused r) at w = Err (broken_at at r)

-- Each item, then those within it, then those after it: how many actions there are, or the fault of the first wrong one. The first of them stands at the byte at;
-- the first number only bounds the recursion, and is at least their count.
unfoldable pub walk_of : ℕ → Counts → ℕ → List Item → Setting → ℕ → Result ℕ Fault
walk_of zero c at is h actions = Ok actions
walk_of (suc n) c at [] h actions = Ok actions
walk_of (suc n) c at (i ∷ is) h actions =
    on_from (item_right i c h (length is) actions) at
    (onward (walk_of n c (at + item_size) (take (within_of i) is) (inside i h) (actions + own_of i))
    (λ m. walk_of n c (at + item_size + item_size * within_of i) (drop (within_of i) is) (next i h) m))

unfoldable pub walked : Counts → ℕ → List Item → Setting → ℕ → Result ℕ Fault
walked c at is h actions = walk_of (length is) c at is h actions

-- Before the first top item.
abbrev pub outset : Setting
outset = record { depth = 1; event = 0; part = 0 }

-- The fault that a walk stopped with, if it did.
unfoldable pub walk_fault : Result ℕ Fault → Check Fault
walk_fault (Ok n) = fine
walk_fault (Err x) = refused x

unfoldable pub items_right : Counts → List Item → Check Fault
items_right c is = walk_fault (walked c (items_at c) is outset 0)
