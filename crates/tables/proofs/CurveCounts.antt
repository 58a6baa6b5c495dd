-- A curve's values span by span, and how many there are: as many as its spans have steps, and one more.
-- Assumes nothing.
use mathlib.Core.Path.{◌≡◌, ap}
use mathlib.Core.List.{List, [], ◌∷◌, ◌++◌}
use Prim.Native.Nat.{ℕ, zero, suc, ◌+◌, ◌-◌, ◌*◌, ◌/◌, ◌<◌, ◌≤◌}
use native.Mathlib.Omega.{arith}
use native.Mathlib.Nat.{div-le_self, div-mul-le_self, mul-le-mul_right, suc-mul}
use lib.IntN.{ℤ}
use lib.ListN.{length, length-append}
use borrow.Author.Rules.{rules}
use Rattle.values.specs.Curves.{curve_value, values_from, span_values, values_on, curve_values}
use Rattle.values.proofs.SpanLaws.{span-length}
use Rattle.extended.specs.Layout.{point_size}
use Rattle.extended.specs.Points.{point_at, points_from}
use Rattle.extended.specs.Inner.{word_range}
use Rattle.extended.proofs.ListLaws.{points-more}
use Rattle.tables.specs.Inner.{most_count, Drawn}

-- ---- one span

-- one value more, at the end
values-last : (v w : ℤ) (step d j count : ℕ) → values_from v w step d j (suc count) ≡ values_from v w step d j count ++ (curve_value v w step d (j + count) ∷ [])
unfolding values_from
values-last v w step d j zero = let s : j + 0 ≡ j = omega arith in rw s
values-last v w step d j (suc count) =
    let s : j + suc count ≡ suc j + count = omega arith in
    rw s (ap {B = List ℤ} (λ r. curve_value v w step d j ∷ r) (values-last v w step d (suc j) count))

pub values-next : (v w : ℤ) (step d j : ℕ) → values_from v w step d 0 (j + 1) ≡ values_from v w step d 0 j ++ (curve_value v w step d j ∷ [])
values-next v w step d j =
    let s : j + 1 ≡ suc j = omega arith in
    let z : 0 + j ≡ j = omega arith in
    rw s (rw z at (values-last v w step d 0 j))

pub steps-small : (d step s : ℕ) → s ≡ d → s < word_range → 1 ≤ step → s / step < word_range
steps-small d step s e l p = omega (arith, div-le_self s step)

pub steps-same : (d step s : ℕ) → s ≡ d → s / step ≡ d / step
steps-same d step s e = rw e

-- a place before the last step is before the span's end
pub place-before : (d step j : ℕ) → 1 ≤ step → j < d / step → j * step < d
place-before d step j p q =
    let l : d / step * step ≤ d = div-mul-le_self d step in
    let s : suc j ≤ d / step = omega arith in
    let m : suc j * step ≤ d / step * step = mul-le-mul_right step s in
    let e : suc j * step ≡ j * step + step = suc-mul j step in
    omega arith

-- ---- the curve

module _ (f : List ℕ) (step : ℕ) where
  pub curve-one : (at left : ℕ) → 1 ≤ left → left ≤ 1 → curve_values step (points_from f at left) ≡ (point_at f at).value ∷ []
  unfolding curve_values values_on points_from
  curve-one at left p q = let s : left ≡ 1 = omega arith in rw s

  pub curve-more : (at left : ℕ) → 1 < left
      → curve_values step (points_from f at left) ≡ span_values (point_at f at).value (point_at f (at + point_size)).value step (point_at f at).span
      ++ curve_values step (points_from f (at + point_size) (left - 1))
  unfolding curve_values values_on
  curve-more at left p = rw (points-more f at left (omega arith), points-more f (at + point_size) (left - 1) (omega arith))

  -- so many of its values are the first span's
  pub curve-count : (at left : ℕ) → 1 < left
      → length (curve_values step (points_from f at left)) ≡ (point_at f at).span / step + length (curve_values step (points_from f (at + point_size) (left - 1)))
  curve-count at left p =
      let v = (point_at f at).value in
      let w = (point_at f (at + point_size)).value in
      let d = (point_at f at).span in
      let l = length-append (span_values v w step d) (curve_values step (points_from f (at + point_size) (left - 1))) in
      rw (curve-more at left p, l, span-length v w step d)

-- ---- the count

-- What was counted, and what the points left come to.
pub record Counting (f : List ℕ) (from points step at left n : ℕ) : Type 0 where
  pub some : 1 ≤ left
  pub few : left ≤ points
  pub place : at + point_size * left ≡ from + point_size * points
  pub count : n + length (curve_values step (points_from f at left)) ≡ 1 + length (curve_values step (points_from f from points))
  pub most : n + word_range * left ≤ 1 + word_range * points

module _ (f : List ℕ) (from points step : ℕ) (asked : Drawn (length f) from points step) where
  pub counting-start : (left : ℕ) → left ≡ points → Counting f from points step from left 1
  counting-start left u = let s = asked.some in record { some = omega arith; few = omega arith; place = rw u; count = rw u; most = omega arith }

  module _ (at left n : ℕ) (known : Counting f from points step at left n) where
    pub counting-step : (rest s : ℕ) → rest ≡ left - 1 → 1 < left → s ≡ (point_at f at).span / step → s < word_range → Counting f from points step (at + point_size) rest (n + s)
    counting-step rest s u p e l =
        let q = known.place in
        let m = known.most in
        let k = known.few in
        let c : n + length (curve_values step (points_from f at left)) ≡ 1 + length (curve_values step (points_from f from points)) = known.count in
        let d = curve-count f step at left p in
        record { some = omega arith; few = omega arith; place = omega arith; count = rw u (omega arith); most = omega arith }

    pub counting-end : left ≤ 1 → n ≡ length (curve_values step (points_from f from points))
    counting-end p =
        let c = known.count in
        let o = known.some in
        let d : length (curve_values step (points_from f at left)) ≡ 1 = rw (curve-one f step at left o p) in
        omega arith

    pub counting-most : left ≤ 1 → n ≤ most_count
    counting-most p =
        let m = known.most in
        let o = known.some in
        let k = asked.few in
        omega arith

    pub counting-room : 1 < left → at + point_size ≤ length f
    counting-room p =
        let q = known.place in
        let r = asked.within in
        omega arith

    pub counting-small : n ≤ most_count
    counting-small =
        let m = known.most in
        let k = asked.few in
        omega arith

pub ruleset counting = (counting-start, counting-step, counting-end, counting-most, counting-room, counting-small, steps-small, steps-same, rules)
