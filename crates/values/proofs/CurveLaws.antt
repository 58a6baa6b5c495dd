-- A curve's values worked out on naturals, by whether it rises or falls; then: it starts at its first point, stays between the two, and never turns.
-- Assumes nothing.
use mathlib.Core.Path.{◌≡◌, refl, sym, ap, ◌∙◌, subst}
use mathlib.Core.Bool.{Bool, true, false}
use Prim.Native.Nat.{ℕ, suc, ◌+◌, ◌-◌, ◌*◌, ◌/◌, ◌<◌, ◌≤◌}
use native.Mathlib.Nat.{mul-le-mul_right, div-eq_of_lt, mul-div_right, add-mul-div_left, div-le_of_le-mul, zero-mul}
use native.Mathlib.Omega.{arith}
use lib.Dec.{ltb}
use borrow.Author.Tests.{ltb-true, ltb-false}
use lib.IntN.{ℤ, pos, neg_ℤ, sub_ℕ, ◌+ℤ◌, ◌*ℤ◌}
use lib.Signed.{mag, ◌≤ℤ◌, ◌<ℤ◌}
use Rattle.values.specs.Integers.{floor_div}
use Rattle.values.specs.Curves.{curve_value}
use Rattle.values.proofs.Differences.{sub-ge, sub-lt, sub_same, sub-up, sub-down, sub-sub, sub-le, le-sub, less-sub, lift, lifted}
use Rattle.values.proofs.FloorLaws.{floor-below, div_mono}

-- ---- on naturals: so far up or down from p, of x grains into a span of d

abbrev pub risen : (p q d x : ℕ) → ℕ
risen p q d x = p + x * (q - p) / d

abbrev pub fallen_by : (p q d x : ℕ) → ℕ
fallen_by p q d x = (x * (p - q) + (d - 1)) / d

abbrev pub fallen : (p q d x : ℕ) → ℕ
fallen p q d x = p - fallen_by p q d x

module _ (p q d x : ℕ) (some : 0 < d) (inside : x ≤ d) where
  pub rise-most : x * (q - p) / d ≤ q - p
  rise-most = div-le_of_le-mul d (mul-le-mul_right (q - p) inside)

  pub fall-most : fallen_by p q d x ≤ p - q
  fall-most =
      let a : x * (p - q) ≤ d * (p - q) = mul-le-mul_right (p - q) inside in
      let b : x * (p - q) + (d - 1) ≤ d - 1 + d * (p - q) = omega arith in
      let c : (d - 1 + d * (p - q)) / d ≡ (d - 1) / d + (p - q) = add-mul-div_left (d - 1) (p - q) some in
      let z : (d - 1) / d ≡ 0 = div-eq_of_lt (omega arith) in
      let m : fallen_by p q d x ≤ (d - 1 + d * (p - q)) / d = div_mono _ _ d some b in
      omega arith

-- ---- the curve between two differences from m

module _ (p q m step d j : ℕ) (some : 0 < d) where
  pub curve-rises : p ≤ q → curve_value (sub_ℕ p m) (sub_ℕ q m) step d j ≡ sub_ℕ (risen p q d (j * step)) m
  unfolding curve_value floor_div
  curve-rises l =
      ap (λ (z : ℤ). sub_ℕ p m +ℤ floor_div (pos (j * step) *ℤ z) d) (sub-sub q p m ∙ sub-ge q p l)
      ∙ sub-up p m (j * step * (q - p) / d)

  pub curve-falls : j * step ≤ d → q < p → curve_value (sub_ℕ p m) (sub_ℕ q m) step d j ≡ sub_ℕ (fallen p q d (j * step)) m
  unfolding curve_value
  curve-falls i l =
      let s : suc (p - suc q) ≡ p - q = omega arith in
      let f : fallen_by p q d (j * step) ≤ p - q = fall-most p q d (j * step) some i in
      ap (λ (z : ℤ). sub_ℕ p m +ℤ floor_div (pos (j * step) *ℤ z) d) (sub-sub q p m ∙ sub-lt q p l)
      ∙ ap (λ (y : ℕ). sub_ℕ p m +ℤ floor_div (neg_ℤ (pos (j * step * y))) d) s
      ∙ ap (λ (z : ℤ). sub_ℕ p m +ℤ z) (floor-below (j * step * (p - q)) d some)
      ∙ sub-down p m (fallen_by p q d (j * step))
      ∙ sub_same p (m + fallen_by p q d (j * step)) (fallen p q d (j * step)) m (omega arith)

-- ---- on all integers: both points are differences from one number

common : (v w : ℤ) → ℕ
common v w = suc (mag v + mag w)

module _ (v w : ℤ) where
  first-lifted : v ≡ sub_ℕ (lift v (common v w)) (common v w)
  unfolding common
  first-lifted = lifted v (suc (mag v + mag w)) (omega arith)

  second-lifted : w ≡ sub_ℕ (lift w (common v w)) (common v w)
  unfolding common
  second-lifted = lifted w (suc (mag v + mag w)) (omega arith)

-- What holds of the curve between any two differences from one number holds of every curve.
over-all : (P : ℤ → ℤ → Type 0) → ((p q m : ℕ) → P (sub_ℕ p m) (sub_ℕ q m)) → (v w : ℤ) → P v w
over-all P f v w =
    subst (λ (z : ℤ). P z w) (sym (first-lifted v w))
    (subst (λ (z : ℤ). P (sub_ℕ (lift v (common v w)) (common v w)) z) (sym (second-lifted v w))
    (f (lift v (common v w)) (lift w (common v w)) (common v w)))

module _ (step d : ℕ) (some : 0 < d) where
  -- "the first with delay 0": the value 0 steps into a span is its first point
  pub curve-start : (v w : ℤ) → curve_value v w step d 0 ≡ v
  curve-start = over-all (λ v w. curve_value v w step d 0 ≡ v) (λ p q m. start p q m)
    where
      start : (p q m : ℕ) → curve_value (sub_ℕ p m) (sub_ℕ q m) step d 0 ≡ sub_ℕ p m
      start p q m = go (ltb q p) refl where
        go : (t : Bool) → ltb q p ≡ t → curve_value (sub_ℕ p m) (sub_ℕ q m) step d 0 ≡ sub_ℕ p m
        go true e =
            let l : q < p = ltb-true q p e in
            let z : 0 * step ≡ 0 = zero-mul step in
            let y : 0 * (p - q) ≡ 0 = zero-mul (p - q) in
            let a : fallen_by p q d 0 ≡ 0 = div-eq_of_lt (omega arith) in
            curve-falls p q m step d 0 some (omega arith) l ∙ ap (λ (x : ℕ). sub_ℕ (fallen p q d x) m) z ∙ ap (λ (x : ℕ). sub_ℕ x m) (omega arith)
        go false e =
            let l : p ≤ q = ltb-false q p e in
            let z : 0 * step ≡ 0 = zero-mul step in
            let y : 0 * (q - p) ≡ 0 = zero-mul (q - p) in
            let a : 0 * (q - p) / d ≡ 0 = div-eq_of_lt (omega arith) in
            curve-rises p q m step d 0 some l ∙ ap (λ (x : ℕ). sub_ℕ (risen p q d x) m) z ∙ ap (λ (x : ℕ). sub_ℕ x m) (omega arith)

  module _ (j : ℕ) (inside : j * step ≤ d) where
    -- a curve that rises stays between its points, and so does one that falls
    pub rising-within : (v w : ℤ) → v ≤ℤ w → (v ≤ℤ curve_value v w step d j) × (curve_value v w step d j ≤ℤ w)
    rising-within = over-all (λ v w. v ≤ℤ w → (v ≤ℤ curve_value v w step d j) × (curve_value v w step d j ≤ℤ w)) (λ p q m h.
        let l : p ≤ q = le-sub p q m h in
        let r = rise-most p q d (j * step) some inside in
        rw (curve-rises p q m step d j some l) (sub-le p (risen p q d (j * step)) m (omega arith), sub-le (risen p q d (j * step)) q m (omega arith)))

    pub falling-within : (v w : ℤ) → w <ℤ v → (w ≤ℤ curve_value v w step d j) × (curve_value v w step d j ≤ℤ v)
    falling-within = over-all (λ v w. w <ℤ v → (w ≤ℤ curve_value v w step d j) × (curve_value v w step d j ≤ℤ v)) (λ p q m h.
        let l : q < p = less-sub q p m h in
        let r = fall-most p q d (j * step) some inside in
        rw (curve-falls p q m step d j some inside l) (sub-le q (fallen p q d (j * step)) m (omega arith), sub-le (fallen p q d (j * step)) p m (omega arith)))

  module _ (j k : ℕ) (later : j ≤ k) (inside : k * step ≤ d) where
    -- further on, a curve that rises is no lower, and one that falls no higher
    pub rising-on : (v w : ℤ) → v ≤ℤ w → curve_value v w step d j ≤ℤ curve_value v w step d k
    rising-on = over-all (λ v w. v ≤ℤ w → curve_value v w step d j ≤ℤ curve_value v w step d k) (λ p q m h.
        let l : p ≤ q = le-sub p q m h in
        let a : j * step ≤ k * step = mul-le-mul_right step later in
        let b : j * step * (q - p) ≤ k * step * (q - p) = mul-le-mul_right (q - p) a in
        let c : j * step * (q - p) / d ≤ k * step * (q - p) / d = div_mono _ _ d some b in
        rw (curve-rises p q m step d j some l, curve-rises p q m step d k some l) (sub-le (risen p q d (j * step)) (risen p q d (k * step)) m (omega arith)))

    pub falling-on : (v w : ℤ) → w <ℤ v → curve_value v w step d k ≤ℤ curve_value v w step d j
    falling-on = over-all (λ v w. w <ℤ v → curve_value v w step d k ≤ℤ curve_value v w step d j) (λ p q m h.
        let l : q < p = less-sub q p m h in
        let a : j * step ≤ k * step = mul-le-mul_right step later in
        let b : j * step * (p - q) ≤ k * step * (p - q) = mul-le-mul_right (p - q) a in
        let c : fallen_by p q d (j * step) ≤ fallen_by p q d (k * step) = div_mono _ _ d some (omega arith) in
        let i : j * step ≤ d = omega arith in
        rw (curve-falls p q m step d j some i l, curve-falls p q m step d k some inside l) (sub-le (fallen p q d (k * step)) (fallen p q d (j * step)) m (omega arith)))

  -- at the span's end stands the second point: the next span, or the last point, goes on from there
  pub curve-end : (j : ℕ) → j * step ≡ d → (v w : ℤ) → curve_value v w step d j ≡ w
  curve-end j whole = over-all (λ v w. curve_value v w step d j ≡ w) (λ p q m. finish p q m)
    where
      finish : (p q m : ℕ) → curve_value (sub_ℕ p m) (sub_ℕ q m) step d j ≡ sub_ℕ q m
      finish p q m = go (ltb q p) refl where
        go : (t : Bool) → ltb q p ≡ t → curve_value (sub_ℕ p m) (sub_ℕ q m) step d j ≡ sub_ℕ q m
        go true e =
            let l : q < p = ltb-true q p e in
            let a : (d - 1 + d * (p - q)) / d ≡ (d - 1) / d + (p - q) = add-mul-div_left (d - 1) (p - q) some in
            let b : (d - 1) / d ≡ 0 = div-eq_of_lt (omega arith) in
            let c : d * (p - q) + (d - 1) ≡ d - 1 + d * (p - q) = omega arith in
            let f : fallen_by p q d d ≡ p - q = ap (λ (x : ℕ). x / d) c ∙ a ∙ ap (λ (x : ℕ). x + (p - q)) b ∙ omega arith in
            curve-falls p q m step d j some (omega arith) l ∙ ap (λ (x : ℕ). sub_ℕ (fallen p q d x) m) whole ∙ ap (λ (x : ℕ). sub_ℕ x m) (omega arith)
        go false e =
            let l : p ≤ q = ltb-false q p e in
            let a : d * (q - p) / d ≡ q - p = mul-div_right (q - p) some in
            curve-rises p q m step d j some l ∙ ap (λ (x : ℕ). sub_ℕ (risen p q d x) m) whole ∙ ap (λ (x : ℕ). sub_ℕ x m) (omega arith)
