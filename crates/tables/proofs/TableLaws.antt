-- What a caller knows of a table that was filled, and of one that was not.
-- Assumes nothing.
use mathlib.Core.Path.{◌≡◌, refl}
use mathlib.Core.List.{List}
use Prim.Native.Nat.{ℕ, ◌*◌, ◌<◌, ◌≤◌}
use native.Mathlib.Omega.{arith}
use lib.Dec.{leb}
use mathlib.Core.Bool.{Bool, true, false}
use lib.ListN.{length}
use borrow.Author.Tests.{leb-true, leb-false}
use Rattle.std.specs.Prelude.{Option, Some, None}
use Rattle.ascii.specs.Laying.{Laid}
use Rattle.contents.specs.Limits.{most_actions}
use Rattle.extended.specs.declared.Extent.{Extent}
use Rattle.shapes.specs.Limits.{row_words}
use Rattle.tables.specs.Tables.{values_in, table_in, Tabled}

-- ---- the answer

module _ (f : List ℕ) (c : Extent) (o m : List ℕ) where
  -- filled: the values are few
  pub filled-few : (n : ℕ) → Tabled f c o m (Some n) → length (values_in f c) ≤ most_actions
  filled-few n t = go (leb (length (values_in f c)) most_actions) refl where
    go : (b : Bool) → leb (length (values_in f c)) most_actions ≡ b → length (values_in f c) ≤ most_actions
    go true h = leb-true _ _ h
    go false h =
        let e : ◌≡◌ {A = Option ℕ} (Some n) None = t.over (leb-false _ _ h) in
        let z : ◌≡◌ {A = ℕ} 0 1 = cc in
        absurd (omega arith)

  pub filled-count : (n : ℕ) → Tabled f c o m (Some n) → n ≡ length (values_in f c)
  filled-count n t = let e : ◌≡◌ {A = Option ℕ} (Some n) (Some (length (values_in f c))) = t.filled (filled-few n t) in cc

  pub filled-laid : (n : ℕ) → Tabled f c o m (Some n) → Laid o 0 (table_in f c) m (row_words * c.items)
  filled-laid n t = t.laid (filled-few n t)

  -- over: there are too many
  pub over-many : Tabled f c o m None → most_actions < length (values_in f c)
  over-many t = go (leb (length (values_in f c)) most_actions) refl where
    go : (b : Bool) → leb (length (values_in f c)) most_actions ≡ b → most_actions < length (values_in f c)
    go false h = leb-false _ _ h
    go true h =
        let e : ◌≡◌ {A = Option ℕ} None (Some (length (values_in f c))) = t.filled (leb-true _ _ h) in
        let z : ◌≡◌ {A = ℕ} 1 0 = cc in
        absurd (omega arith)
