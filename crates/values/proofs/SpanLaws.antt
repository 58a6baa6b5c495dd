-- The values of a curve as a list: how many there are, that each lies between the two control points of its span, and where the list begins and ends.
-- Assumes nothing.
use mathlib.Core.Path.{◌≡◌, refl, sym, ap, ◌∙◌}
use mathlib.Core.Bool.{Bool, true, false}
use mathlib.Core.List.{List, [], ◌∷◌, ◌++◌, append_assoc}
use Prim.Native.Nat.{ℕ, zero, suc, ◌+◌, ◌-◌, ◌*◌, ◌/◌, ◌<◌, ◌≤◌}
use native.Mathlib.Nat.{mul-le-mul_right, div-mul-le_self, zero-div, le-div_iff_mul-le}
use native.Mathlib.Omega.{arith}
use lib.IntN.{ℤ}
use lib.ListN.{length, get_or, length-append}
use lib.Signed.{◌≤ℤ◌, ◌<ℤ◌, lt_z, lt_z_yes, lt_z_no}
use Rattle.values.specs.Curves.{Point, curve_value, values_from, span_values, values_on, curve_values}
use Rattle.values.proofs.CurveLaws.{curve-start, rising-within, falling-within}

-- x is not below the lower of a and b, nor above the higher.
pub data Between (a b x : ℤ) : Type 0 where
  rising : a ≤ℤ b → a ≤ℤ x → x ≤ℤ b → Between a b x
  falling : b <ℤ a → b ≤ℤ x → x ≤ℤ a → Between a b x

pub data AllBetween (a b : ℤ) : List ℤ → Type 0 where
  no_value : AllBetween a b []
  value : {x : ℤ} {xs : List ℤ} → Between a b x → AllBetween a b xs → AllBetween a b (x ∷ xs)

-- ---- one value

module _ (v w : ℤ) (step d : ℕ) where
  -- Every value of a curve lies between its two control points, at each place up to the span's end.
  pub between : (j : ℕ) → 0 < d → j * step ≤ d → Between v w (curve_value v w step d j)
  between j some inside = go (lt_z w v) refl
    where
      go : (t : Bool) → lt_z w v ≡ t → Between v w (curve_value v w step d j)
      go true e = let l : w <ℤ v = lt_z_yes (rw e tt) in let h = falling-within step d some j inside v w l in falling l h.0 h.1
      go false e = let l : v ≤ℤ w = lt_z_no (rw e tt) in let h = rising-within step d some j inside v w l in rising l h.0 h.1

  -- A place before the span's count of values stands before its end.
  place_inside : (j : ℕ) → j < d / step → (0 < d) × (j * step ≤ d)
  place_inside j l =
      let a : j * step ≤ d / step * step = mul-le-mul_right step (omega arith) in
      let b : d / step * step ≤ d = div-mul-le_self d step in
      (some d l, omega arith)
    where
      some : (n : ℕ) → j < n / step → 0 < n
      some zero m = absurd (omega (arith, zero-div step))
      some (suc n) m = omega arith

  -- ---- a span

  values_length : (j count : ℕ) → length (values_from v w step d j count) ≡ count
  unfolding values_from
  values_length j zero = refl
  values_length j (suc count) = ap suc (values_length (suc j) count)

  -- A span has one value for each of its steps.
  pub span-length : length (span_values v w step d) ≡ d / step
  unfolding span_values
  span-length = values_length 0 (d / step)

  values-between : (j count : ℕ) → j + count ≤ d / step → AllBetween v w (values_from v w step d j count)
  unfolding values_from
  values-between j zero h = no_value
  values-between j (suc count) h =
      let p = place_inside j (omega arith) in
      value (between j p.0 p.1) (values-between (suc j) count (omega arith))

  -- All values of a span lie between its two control points.
  pub span_between : AllBetween v w (span_values v w step d)
  unfolding span_values
  span_between = values-between 0 (d / step) (omega arith)

  values-at : (j count k : ℕ) (z : ℤ) → k < count → get_or (values_from v w step d j count) k z ≡ curve_value v w step d (j + k)
  unfolding values_from
  values-at j zero k z h = absurd (omega arith)
  values-at j (suc count) zero z h = ap (curve_value v w step d) (omega arith)
  values-at j (suc count) (suc k) z h = let a : suc j + k ≡ j + suc k = omega arith in values-at (suc j) count k z (omega arith) ∙ ap (curve_value v w step d) a

  -- The value at place k of a span's list is the formula's at k steps.
  pub span-at : (k : ℕ) (z : ℤ) → k < d / step → get_or (span_values v w step d) k z ≡ curve_value v w step d k
  unfolding span_values
  span-at k z h = values-at 0 (d / step) k z h ∙ ap (curve_value v w step d) (omega arith)

  -- A span of a step or more begins with its first control point.
  pub span-first : 1 ≤ step → step ≤ d → span_values v w step d ≡ v ∷ values_from v w step d 1 (d / step - 1)
  unfolding span_values values_from
  span-first s l =
      let a : 1 * step ≤ d = omega arith in
      let b : 1 ≤ d / step = (le-div_iff_mul-le s).1 a in
      let c : d / step ≡ suc (d / step - 1) = omega arith in
      ap (values_from v w step d 0) c ∙ ap (λ (x : ℤ). x ∷ values_from v w step d 1 (d / step - 1)) (curve-start step d (omega arith) v w)

-- ---- a curve

-- The steps of all spans: of each but the last point's, which closes the curve.
unfoldable pub steps_on : (step : ℕ) → Point → List Point → ℕ
steps_on step p [] = 0
steps_on step p (q ∷ ps) = p.span / step + steps_on step q ps

unfoldable pub last_point : Point → List Point → Point
last_point p [] = p
last_point p (q ∷ ps) = last_point q ps

-- These values, span after span: each span's lie between its two points and are as many as it has steps, and the last point's own value closes the curve.
pub data Spans (step : ℕ) : Point → List Point → List ℤ → Type 0 where
  closing : {p : Point} → Spans step p [] (p.value ∷ [])
  spanned : {p q : Point} {ps : List Point} {vs ws : List ℤ} →
      AllBetween p.value q.value vs → length vs ≡ p.span / step → Spans step q ps ws → Spans step p (q ∷ ps) (vs ++ ws)

module _ (step : ℕ) where
  spans-between : (p : Point) (ps : List Point) → Spans step p ps (values_on step p ps)
  unfolding values_on
  spans-between p [] = closing
  spans-between p (q ∷ ps) =
      spanned (span_between p.value q.value step p.span) (span-length p.value q.value step p.span) (spans-between q ps)

  -- Every value of a curve lies between the two control points of its span.
  pub curve-between : (p : Point) (ps : List Point) → Spans step p ps (curve_values step (p ∷ ps))
  unfolding curve_values
  curve-between p ps = spans-between p ps

  spans-length : (p : Point) (ps : List Point) → length (values_on step p ps) ≡ 1 + steps_on step p ps
  unfolding values_on steps_on
  spans-length p [] = refl
  spans-length p (q ∷ ps) =
      let vs = span_values p.value q.value step p.span in
      omega (arith, length-append vs (values_on step q ps), span-length p.value q.value step p.span, spans-length q ps)

  -- A curve has one value for each step of its spans, and one more.
  pub curve-length : (p : Point) (ps : List Point) → length (curve_values step (p ∷ ps)) ≡ 1 + steps_on step p ps
  unfolding curve_values
  curve-length p ps = spans-length p ps

  spans-close : (p : Point) (ps : List Point) → (vs : List ℤ) × (values_on step p ps ≡ vs ++ ((last_point p ps).value ∷ []))
  unfolding values_on last_point
  spans-close p [] = ([], refl)
  spans-close p (q ∷ ps) =
      let vs = span_values p.value q.value step p.span in
      let r = spans-close q ps in
      (vs ++ r.0, ap (λ (l : List ℤ). vs ++ l) r.1 ∙ sym (append_assoc vs r.0 _))

  -- The last value is the last control point's.
  pub curve-closes : (p : Point) (ps : List Point) → (vs : List ℤ) × (curve_values step (p ∷ ps) ≡ vs ++ ((last_point p ps).value ∷ []))
  unfolding curve_values
  curve-closes p ps = spans-close p ps

  -- The first value is the first control point's, where its span has a step or more.
  pub curve-opens : (p q : Point) (ps : List Point) → 1 ≤ step → step ≤ p.span → (vs : List ℤ) × (curve_values step (p ∷ (q ∷ ps)) ≡ p.value ∷ vs)
  unfolding curve_values values_on
  curve-opens p q ps s l = (
    values_from p.value q.value step p.span 1 (p.span / step - 1) ++ values_on step q ps,
    ap (λ (l : List ℤ). l ++ values_on step q ps) (span-first p.value q.value step p.span s l),
  )
