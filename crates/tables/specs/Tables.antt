-- The items of an extended score as a table of words, and the values of its curves as words. What unfolding promises doesn't need these: they need not be
-- believed.
use Rattle.std.specs.Prelude.{ℕ, ◌+◌, ◌*◌, ◌<◌, ◌≤◌, ◌≡◌, List, [], ◌∷◌, ◌++◌, map, ℤ, length, take, Option, Some, None}
use Rattle.base.specs.Tests.{pick}
use Rattle.ascii.specs.Laying.{Laid}
use Rattle.contents.specs.Limits.{most_actions}
use Rattle.values.specs.Integers.{whole_range}
use Rattle.values.specs.Curves.{Point}
use Rattle.values.specs.Inner.{value_of}
use Rattle.extended.specs.declared.Extent.{Extent}
use Rattle.extended.specs.declared.Folded.{Folded}
use Rattle.extended.specs.Layout.{items_start, points_start}
use Rattle.extended.specs.Folds.{is_curve, folded_from}
use Rattle.extended.specs.Points.{points_from, points_after, values_of, all_values}
use Rattle.shapes.specs.Limits.{row_words}

-- ---- the table

-- How many passes or values an item has, of the points left.
unfoldable pub times_of : Folded → List Point → ℕ
times_of i ps = pick (is_curve i) (length (values_of i ps)) i.times

-- "kind, last and times", an item's shape, and how many values stand before its own.
unfoldable pub row_of : Folded → (times first : ℕ) → List ℕ
row_of i n first = i.item.kind ∷ i.item.last ∷ n ∷ first ∷ []

unfoldable pub table_of : List Folded → List Point → (first : ℕ) → List ℕ
table_of [] ps first = []
table_of (i ∷ is) ps first = row_of i (times_of i ps) first ++ table_of is (points_after i ps) (first + length (values_of i ps))

-- ---- of a file with these counts

abbrev pub items_in : List ℕ → Extent → List Folded
items_in f c = folded_from f (items_start c) c.items

abbrev pub points_in : List ℕ → Extent → List Point
points_in f c = points_from f (points_start c) c.points

abbrev pub values_in : List ℕ → Extent → List ℤ
values_in f c = all_values (items_in f c) (points_in f c)

abbrev pub table_in : List ℕ → Extent → List ℕ
table_in f c = table_of (items_in f c) (points_in f c) 0

-- What became of the words where the table was to be filled.
pub record Tabled (f : List ℕ) (c : Extent) (entry exit : List ℕ) (r : Option ℕ) : Type 0 where
  pub filled : length (values_in f c) ≤ most_actions → r ≡ Some (length (values_in f c))
  pub laid : length (values_in f c) ≤ most_actions → Laid entry 0 (table_in f c) exit (row_words * c.items)
  pub over : most_actions < length (values_in f c) → r ≡ None

-- ---- the values

-- All of these are below n.
pub data Below (n : ℕ) : List ℕ → Type 0 where
  no_word : Below n []
  word_below : {x : ℕ} {xs : List ℕ} → x < n → Below n xs → Below n (x ∷ xs)

-- The first r words are the values of all curves, raised.
pub record Valued (f : List ℕ) (c : Extent) (m : List ℕ) (r : ℕ) : Type 0 where
  pub count : r ≡ length (values_in f c)
  pub values : map value_of (take r m) ≡ values_in f c
  pub below : Below whole_range (take r m)
  pub few : r ≤ most_actions
