-- "A curve has signed 32-bit control points, a step and spans that the step divides".
use Rattle.std.specs.Prelude.{ℕ, zero, suc, ◌/◌, List, [], ◌∷◌, ◌++◌, ℤ, pos, ◌+ℤ◌, ◌-ℤ◌, ◌*ℤ◌}
use Rattle.values.specs.Integers.{floor_div}

-- "value (i32) and span (u32) to the next point of its curve, 0 at the last"
pub record Point : Type 0 where
  pub value : ℤ
  pub span : ℕ

-- "the value j steps into a span of d grains is v + floor(j x step x (w - v) / d), also where w is below v". Integers have no width here; of 32-bit points, and
-- within the span, the product is below 2^64 in size.
unfoldable pub curve_value : (v w : ℤ) (step d j : ℕ) → ℤ
curve_value v w step d j = v +ℤ floor_div (pos j *ℤ pos step *ℤ (w -ℤ v)) d

-- So many values, from j steps into the span on.
unfoldable pub values_from : (v w : ℤ) (step d j count : ℕ) → List ℤ
values_from v w step d j zero = []
values_from v w step d j (suc count) = curve_value v w step d j ∷ values_from v w step d (suc j) count

-- "for j from 0 to below the span's end": the step divides the span.
unfoldable pub span_values : (v w : ℤ) (step d : ℕ) → List ℤ
span_values v w step d = values_from v w step d 0 (d / step)

-- "the last point closes the curve"
unfoldable pub values_on : (step : ℕ) → Point → List Point → List ℤ
values_on step p [] = p.value ∷ []
values_on step p (q ∷ ps) = span_values p.value q.value step p.span ++ values_on step q ps

unfoldable pub curve_values : (step : ℕ) → List Point → List ℤ
curve_values step [] = []
curve_values step (p ∷ ps) = values_on step p ps
