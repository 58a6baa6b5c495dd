-- The numbered items as three lent slices have them: the extended score's bytes, a table with a row of words an item, and message numbers. Nothing here need be
-- believed: where the rows and the numbers are the score's own, these are its numbered items (`numbered-here`).
use Rattle.std.specs.Prelude.{ℕ, zero, suc, ◌+◌, ◌*◌, ◌≡◌, List, [], ◌∷◌, eqb, length, get_or}
use Rattle.base.specs.Tests.{pick}
use Rattle.contents.specs.Bytes.{part}
use Rattle.values.specs.Curves.{Point}
use Rattle.extended.specs.declared.Folded.{Folded}
use Rattle.extended.specs.Layout.{folded_size}
use Rattle.extended.specs.Folds.{folded_at}
use Rattle.extended.specs.Points.{values_of, points_after}
use Rattle.shapes.specs.declared.Shape.{Shape}
use Rattle.shapes.specs.Limits.{row_words}
use Rattle.shapes.specs.Shapes.{shape_at}
use Rattle.tables.specs.Tables.{times_of}
use Rattle.unfolding.specs.Extended.{Numbered, numbered_by}
use Rattle.unfolding.specs.Unfolded.{is_action, is_group, is_loop}

-- The fourth word of a row: how many values stand before the item's own.
unfoldable pub first_at : (table : List ℕ) (k : ℕ) → ℕ
first_at table k = get_or table (row_words * k + 3) 0

-- The message numbers of the item at place k: as many as its row says, from the first on, for a curve; else none.
unfoldable pub numbers_at : (table numbers : List ℕ) (k : ℕ) → List ℕ
numbers_at table numbers k = pick (eqb (shape_at table k).kind 3) (part numbers (first_at table k) (shape_at table k).times) []

abbrev pub numbered_at : (file : List ℕ) (start : ℕ) (table numbers : List ℕ) (k : ℕ) → Numbered
numbered_at file start table numbers k = numbered_by (folded_at file (start + folded_size * k)) (numbers_at table numbers k)

-- The count items from item k on.
unfoldable pub numbered_in : (file : List ℕ) (start : ℕ) (table numbers : List ℕ) (k count : ℕ) → List Numbered
numbered_in file start table numbers k zero = []
numbered_in file start table numbers k (suc count) = numbered_at file start table numbers k ∷ numbered_in file start table numbers (k + 1) count

-- An item's shape: a loop's passes, a curve's values.
unfoldable pub times_in : Numbered → ℕ
times_in i = pick (is_action i) 0 (pick (is_group i) 0 (pick (is_loop i) i.times (length i.numbers)))

unfoldable pub shape_of : Numbered → Shape
shape_of i = record { kind = i.item.kind; last = i.item.last; times = times_in i }

unfoldable pub shapes_of : List Numbered → List Shape
shapes_of [] = []
shapes_of (i ∷ is) = shape_of i ∷ shapes_of is

-- ---- the rows of an extended score's own items

-- From row k on the table has the rows of these items, which so many values stand before.
pub data Rows (table : List ℕ) : (k before : ℕ) → List Folded → List Point → Type 0 where
  no_rows : {k before : ℕ} {ps : List Point} → Rows table k before [] ps
  row : {k before : ℕ} {i : Folded} {is : List Folded} {ps : List Point} → shape_at table k ≡ record { kind = i.item.kind; last = i.item.last; times = times_of i ps }
      → first_at table k ≡ before → Rows table (k + 1) (before + length (values_of i ps)) is (points_after i ps) → Rows table k before (i ∷ is) ps
