-- The control points: "Points are taken from the table in page order, each curve's where the last one's end".
use Rattle.std.specs.Prelude.{ℕ, zero, suc, ◌+◌, ◌%◌, Bool, false, List, [], ◌∷◌, ◌++◌, leb, eqb, ℤ, take, drop}
use Rattle.base.specs.Tests.{pick, every}
use Rattle.contents.specs.Bytes.{u32_at}
use Rattle.values.specs.Integers.{from_bits}
use Rattle.values.specs.Curves.{Point, curve_values}
use Rattle.extended.specs.declared.Folded.{Folded}
use Rattle.extended.specs.Layout.{point_size}
use Rattle.extended.specs.Folds.{is_curve}

unfoldable pub point_at : List ℕ → ℕ → Point
point_at f at = record { value = from_bits (u32_at f at); span = u32_at f (at + 4) }

-- The count points from the byte at on.
unfoldable pub points_from : List ℕ → ℕ → ℕ → List Point
points_from f at zero = []
points_from f at (suc count) = point_at f at ∷ points_from f (at + point_size) count

-- "A span is at least one step and a multiple of it", and "0 at the last".
unfoldable pub spans_on : (step : ℕ) → Point → List Point → Bool
spans_on step p [] = eqb p.span 0
spans_on step p (q ∷ ps) = every (leb step p.span ∷ eqb (p.span % step) 0 ∷ spans_on step q ps ∷ [])

unfoldable pub spans_right : (step : ℕ) → List Point → Bool
spans_right step [] = false
spans_right step (p ∷ ps) = spans_on step p ps

-- Of the points left, those that an item leaves to the items after it, and the values of those that it takes.
unfoldable pub points_after : Folded → List Point → List Point
points_after i ps = pick (is_curve i) (drop i.times ps) ps

unfoldable pub values_of : Folded → List Point → List ℤ
values_of i ps = pick (is_curve i) (curve_values i.each (take i.times ps)) []

-- The values of all curves, in page order.
unfoldable pub all_values : List Folded → List Point → List ℤ
all_values [] ps = []
all_values (i ∷ is) ps = values_of i ps ++ all_values is (points_after i ps)
