-- The unfolded score: "each becomes one group with its own delay and words".
use Rattle.std.specs.Prelude.{ℕ, zero, suc, ◌+◌, max, Bool, List, [], ◌∷◌, ◌++◌, eqb, length, take, drop}
use Rattle.page.specs.declared.Item.{Item}
use Rattle.base.specs.Tests.{pick}
use Rattle.unfolding.specs.Extended.{Numbered}

-- Nothing more, an action and what follows it, or a group of these and what follows it.
pub data Unfolded : Type 0 where
  end : Unfolded
  action : Item → (rest : Unfolded) → Unfolded
  group : Item → (body rest : Unfolded) → Unfolded

-- "0 action, 1 group"; "Kind 2 is a loop, 3 a curve".
abbrev pub is_action : Numbered → Bool
is_action i = eqb i.item.kind 0

abbrev pub is_group : Numbered → Bool
is_group i = eqb i.item.kind 1

abbrev pub is_loop : Numbered → Bool
is_loop i = eqb i.item.kind 2

-- "An item within a group has event 0 and its group's part." A pass has the loop's words too, and is a group.
unfoldable pub pass_item : Item → (delay : ℕ) → Item
pass_item i d = record { kind = 1; synchrony = i.synchrony; error = i.error; part = i.part; delay = record { 0 = d }; event = 0; last = 0 }

unfoldable pub send_item : Item → (delay number : ℕ) → Item
send_item i d n = record { kind = 0; synchrony = 0; error = 0; part = i.part; delay = record { 0 = d }; event = 0; last = n }

-- "each pass a group of the same words starting one period after the last": "the first with delay 0, the others with the period". So many, the first of them with
-- this delay.
unfoldable pub passes : Item → (period delay count : ℕ) → Unfolded → Unfolded
passes i period d zero body = end
passes i period d (suc n) body = group (pass_item i d) body (passes i period period n body)

-- "of actions: the first with delay 0, the others with the step"
unfoldable pub sends : Item → (step delay : ℕ) → (numbers : List ℕ) → Unfolded
sends i step d [] = end
sends i step d (n ∷ ns) = action (send_item i d n) (sends i step step ns)

-- What stands in the group that an item becomes.
unfoldable pub inside_of : Numbered → Unfolded → Unfolded
inside_of i body =
    pick (is_group i) body (pick (is_loop i) (passes i.item i.each 0 i.times body) (sends i.item i.each 0 i.numbers))

unfoldable pub becomes : Numbered → (body rest : Unfolded) → Unfolded
becomes i body rest = pick (is_action i) (action i.item rest) (group i.item (inside_of i body) rest)

-- How many of the items after it lie within an item.
unfoldable pub within_of : Numbered → ℕ
within_of i = pick (is_group i) i.item.last (pick (is_loop i) i.item.last 0)

-- Each item with those within it, then those after it. The first number only bounds the recursion, and is at least the items' count.
unfoldable pub unfolded_to : ℕ → List Numbered → Unfolded
unfolded_to zero is = end
unfolded_to (suc n) [] = end
unfolded_to (suc n) (i ∷ is) = becomes i (unfolded_to n (take (within_of i) is)) (unfolded_to n (drop (within_of i) is))

unfoldable pub unfolded : List Numbered → Unfolded
unfolded is = unfolded_to (length is) is

-- ---- how much it has

unfoldable pub items : Unfolded → ℕ
items end = 0
items (action i rest) = 1 + items rest
items (group i body rest) = 1 + items body + items rest

unfoldable pub actions : Unfolded → ℕ
actions end = 0
actions (action i rest) = 1 + actions rest
actions (group i body rest) = actions body + actions rest

-- "Top items have depth 1"
unfoldable pub depth : Unfolded → ℕ
depth end = 0
depth (action i rest) = max 1 (depth rest)
depth (group i body rest) = max (1 + depth body) (depth rest)

-- ---- as an item table

-- "For a group last is how many following items lie within it, deeper ones too".
unfoldable pub group_item : Item → (last : ℕ) → Item
group_item i n = record { kind = 1; synchrony = i.synchrony; error = i.error; part = i.part; delay = i.delay; event = i.event; last = n }

unfoldable pub page : Unfolded → List Item
page end = []
page (action i rest) = i ∷ page rest
page (group i body rest) = group_item i (items body) ∷ (page body ++ page rest)
