-- The sizes of what a table unfolds to, or that they are over a limit: found before anything is made.
use Rattle.std.specs.Prelude.{ℕ, ◌+◌, ◌*◌, ◌≤◌, ◌<◌, [], ◌∷◌, leb, eqb, Option, Some, None}
use Rattle.base.specs.Tests.{pick, every}
use Rattle.shapes.specs.declared.Shape.{Shape}
use Rattle.shapes.specs.declared.Own.{Own}
use Rattle.shapes.specs.declared.Sizes.{Sizes}
use Rattle.contents.specs.Limits.{most_items, most_actions, deepest}
use Rattle.shapes.specs.Limits.{row_words, word_range}
use Rattle.shapes.specs.Shapes.{Tree, is_action, is_group, is_loop, within_of, items, actions, depth}

-- Items and actions, where they and the depth are within the limits.
unfoldable pub told : (items actions depth : ℕ) → Option Sizes
told n a d = pick (every (leb n most_items ∷ leb a most_actions ∷ leb d deepest ∷ [])) (Some (record { items = n; actions = a })) None

-- What is told of a score that stands factor times, under depth d, where n items and a actions stand besides.
unfoldable pub told_from : (factor d n a : ℕ) → Tree → Option Sizes
told_from factor d n a s = told (n + factor * items s) (a + factor * actions s) (d + depth s)

-- "18: the unfolded score would have .. more than 2,048 items, 1,024 actions, .. or an item at depth 9"
unfoldable pub sizes_of : Tree → Option Sizes
sizes_of s = told (items s) (actions s) (depth s)

-- ---- what one item comes to by itself, in the code's terms

-- Its items and actions, how often its body stands, how deep it goes by itself, and how many items to open and to pass.
unfoldable pub own_of : Shape → Own
own_of i =
    pick (is_action i) (record { each = 1; sent = 1; inner = 0; deep = 1; opened = 0; within = within_of i })
    (pick (is_group i) (record { each = 1; sent = 0; inner = 1; deep = 1; opened = i.last; within = within_of i })
    (pick (eqb i.times 0) (record { each = 1; sent = 0; inner = 0; deep = 1; opened = 0; within = within_of i })
    (pick (is_loop i) (record { each = 1 + i.times; sent = 0; inner = i.times; deep = 2; opened = i.last; within = within_of i })
    (record { each = 1 + i.times; sent = i.times; inner = 0; deep = 2; opened = 0; within = within_of i }))))

pub record Small (i : Shape) : Type 0 where
  pub last : i.last < word_range
  pub times : i.times < word_range

-- What holds of any item's own sizes, so that the sums fit.
pub record Bounded (o : Own) : Type 0 where
  pub each : o.each ≤ word_range
  pub sent : o.sent ≤ word_range
  pub inner : o.inner ≤ o.each
  pub some : 1 ≤ o.deep
  pub deep : o.deep ≤ 2

-- The count items from k on stand in a table of so many words, and what was found so far is within the limits.
pub record Sizable (size k count d f n a : ℕ) : Type 0 where
  pub table : row_words * (k + count) ≤ size
  pub depth : d ≤ deepest
  pub factor : f ≤ most_items
  pub items : n ≤ most_items
  pub actions : a ≤ most_actions
