-- A table of items with loops and curves, and the score that it unfolds to: here its shape alone, actions and groups.
use Rattle.std.specs.Prelude.{ℕ, zero, suc, ◌+◌, ◌*◌, max, Bool, List, [], ◌∷◌, eqb, length, get_or, take, drop}
use Rattle.base.specs.Tests.{pick}
use Rattle.shapes.specs.declared.Shape.{Shape}
use Rattle.shapes.specs.Limits.{row_words}

-- ---- the table, a row of words an item

unfoldable pub shape_at : List ℕ → ℕ → Shape
shape_at ws k = record { kind = get_or ws (row_words * k) 0; last = get_or ws (row_words * k + 1) 0; times = get_or ws (row_words * k + 2) 0 }

unfoldable pub shapes_from : List ℕ → ℕ → ℕ → List Shape
shapes_from ws k zero = []
shapes_from ws k (suc count) = shape_at ws k ∷ shapes_from ws (k + 1) count

-- "Kind 2 is a loop, 3 a curve": 0 is an action, 1 a group.
abbrev pub is_action : Shape → Bool
is_action i = eqb i.kind 0

abbrev pub is_group : Shape → Bool
is_group i = eqb i.kind 1

abbrev pub is_loop : Shape → Bool
is_loop i = eqb i.kind 2

-- ---- the unfolded score: nothing more, an action and what follows it, or a group of these and what follows it

pub data Tree : Type 0 where
  end : Tree
  action : Tree → Tree
  group : Tree → Tree → Tree

-- "each pass a group of the same words"
unfoldable pub passes : ℕ → Tree → Tree
passes zero body = end
passes (suc n) body = group body (passes n body)

-- "a group .. of actions": one for each of a curve's values
unfoldable pub values : ℕ → Tree
values zero = end
values (suc n) = action (values n)

-- What stands in the group that an item becomes, which is no action.
unfoldable pub inside_of : Shape → Tree → Tree
inside_of i body = pick (is_group i) body (pick (is_loop i) (passes i.times body) (values i.times))

-- "each becomes one group"
unfoldable pub becomes : Shape → (body rest : Tree) → Tree
becomes i body rest = pick (is_action i) (action rest) (group (inside_of i body) rest)

-- How many of the items after it lie within an item: "`last` the items within it, as for a group"; for a curve and an action none.
unfoldable pub within_of : Shape → ℕ
within_of i = pick (is_action i) 0 (pick (is_group i) i.last (pick (is_loop i) i.last 0))

-- The first number only bounds the recursion, and is at least the items' count.
unfoldable pub unfolded_to : ℕ → List Shape → Tree
unfolded_to zero is = end
unfolded_to (suc n) [] = end
unfolded_to (suc n) (i ∷ is) = becomes i (unfolded_to n (take (within_of i) is)) (unfolded_to n (drop (within_of i) is))

unfoldable pub unfolded : List Shape → Tree
unfolded is = unfolded_to (length is) is

-- ---- its sizes

unfoldable pub items : Tree → ℕ
items end = 0
items (action rest) = 1 + items rest
items (group body rest) = 1 + items body + items rest

unfoldable pub actions : Tree → ℕ
actions end = 0
actions (action rest) = 1 + actions rest
actions (group body rest) = actions body + actions rest

-- "Top items have depth 1"
unfoldable pub depth : Tree → ℕ
depth end = 0
depth (action rest) = max 1 (depth rest)
depth (group body rest) = max (1 + depth body) (depth rest)
