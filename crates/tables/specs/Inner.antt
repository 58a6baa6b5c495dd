-- What the functions of this crate ask of each other. No promise of a call needs it.
use Rattle.std.specs.Prelude.{ℕ, ◌+◌, ◌-◌, ◌*◌, ◌<◌, ◌≤◌, ◌≡◌, true, List, ◌++◌, map, ℤ, length, take}
use Rattle.base.specs.Tests.{pick}
use Rattle.values.specs.Integers.{whole_range}
use Rattle.values.specs.Curves.{Point}
use Rattle.values.specs.Inner.{value_of}
use Rattle.extended.specs.declared.Extent.{Extent}
use Rattle.extended.specs.declared.Folded.{Folded}
use Rattle.extended.specs.Layout.{folded_size, point_size, items_start, points_start}
use Rattle.extended.specs.Folds.{is_curve, folded_from}
use Rattle.extended.specs.Points.{points_from}
use Rattle.extended.specs.Right.{own_right}
use Rattle.extended.specs.Inner.{word_range, SmallExtent, SmallFolded, Foldable}
pub use Rattle.extended.specs.Inner.{points_of}
use Rattle.shapes.specs.Limits.{row_words}
use Rattle.tables.specs.Tables.{Below}

-- ---- items and points by number

-- A curve has less than 2^16 points, and a span less than 2^32 steps.
abbrev pub most_count : ℕ
most_count = 281474976710656

-- An item's passes, or the values of its curve, where these are so many.
unfoldable pub times_as : Folded → (values : ℕ) → ℕ
times_as i n = pick (is_curve i) n i.times

abbrev pub items_left : List ℕ → Extent → (k : ℕ) → List Folded
items_left f c k = folded_from f (items_start c + folded_size * k) (c.items - k)

abbrev pub points_left : List ℕ → Extent → (used : ℕ) → List Point
points_left f c used = points_from f (points_start c + point_size * used) (c.points - used)

-- Item k stands in a file of so many bytes.
pub record ItemIn (size : ℕ) (c : Extent) (k : ℕ) : Type 0 where
  pub small : SmallExtent c
  pub before : k < c.items
  pub within : items_start c + folded_size * (k + 1) ≤ size

-- So many points at most are used.
pub record PointIn (c : Extent) (used : ℕ) : Type 0 where
  pub small : SmallExtent c
  pub points : used ≤ c.points

-- The item is right by itself with the points that are left.
pub record Reached (f : List ℕ) (c : Extent) (used : ℕ) (i : Folded) : Type 0 where
  pub foldable : Foldable f c
  pub points : used ≤ c.points
  pub small : SmallFolded i
  pub right : own_right i (points_left f c used) ≡ true

-- A curve's points stand in a file of so many bytes.
pub record Drawn (size from points step : ℕ) : Type 0 where
  pub some : 1 ≤ points
  pub few : points < 65536
  pub stepped : 1 ≤ step
  pub small : step < word_range
  pub within : from + point_size * points ≤ size

-- ---- what is put

-- A row's words, and room for them.
pub record RowIn (size at : ℕ) (i : Folded) (times first : ℕ) : Type 0 where
  pub room : at + row_words ≤ size
  pub small : SmallFolded i
  pub short : times < word_range
  pub before : first < word_range

-- Two raised values and a span.
pub record Spanned (v w step span : ℕ) : Type 0 where
  pub first : v < whole_range
  pub second : w < whole_range
  pub stepped : 1 ≤ step
  pub small : span < whole_range

-- The first n words are raised values, and so many more have room.
pub record Addable (m : List ℕ) (n count : ℕ) : Type 0 where
  pub below : Below whole_range (take n m)
  pub room : n + count ≤ length m

-- The values that the first n words are, raised.
unfoldable pub raised_in : List ℕ → (n : ℕ) → List ℤ
raised_in m n = map value_of (take n m)

-- Behind the first n words stand the values up to r.
pub record Added (old : List ℕ) (n : ℕ) (vs : List ℤ) (new : List ℕ) (r : ℕ) : Type 0 where
  pub values : raised_in new r ≡ raised_in old n ++ vs
  pub below : Below whole_range (take r new)
  pub stop : r ≡ n + length vs
  pub within : r ≤ length new
  pub size : length new ≡ length old
