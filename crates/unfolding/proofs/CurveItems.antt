-- The values of a curve that can be unfolded: it has a first point, and its values begin and end with its points and lie between those of their span.
-- Assumes nothing.
use mathlib.Core.Path.{◌≡◌, refl, ap, ◌∙◌}
use mathlib.Core.Bool.{true}
use mathlib.Core.List.{List, [], ◌∷◌, ◌++◌}
use Prim.Native.Nat.{ℕ, ◌+◌, ◌≤◌}
use native.Mathlib.Omega.{arith}
use lib.IntN.{ℤ}
use lib.ListN.{length, take}
use borrow.Author.Tests.{leb-true}
use Rattle.base.specs.Tests.{pick}
use Rattle.base.proofs.TestLaws.{every-head, every_rest}
use Rattle.values.specs.Curves.{Point, values_on, curve_values}
use Rattle.values.proofs.SpanLaws.{steps_on, last_point, Spans, curve-between, curve-length, curve-closes, curve-opens}
use Rattle.extended.specs.declared.Folded.{Folded}
use Rattle.extended.specs.Points.{spans_on, spans_right, values_of}
use Rattle.extended.specs.Right.{curve_right}
use Rattle.extended.proofs.TakeLaws.{right-step}

right-spans : (i : Folded) (ps : List Point) → curve_right i ps ≡ true → spans_right i.each (take i.times ps) ≡ true
unfolding curve_right
right-spans i ps e = every-head _ _ (every_rest _ _ (every_rest _ _ (every_rest _ _ e)))

some-point : (step : ℕ) (l : List Point) → spans_right step l ≡ true → (p : Point) × (qs : List Point) × (l ≡ p ∷ qs)
unfolding spans_right
some-point step [] e = let z : ◌≡◌ {A = ℕ} 0 1 = cc in absurd (omega arith)
some-point step (p ∷ qs) e = (p, qs, refl)

first-value : (step : ℕ) (p : Point) (qs : List Point) → 1 ≤ step → spans_right step (p ∷ qs) ≡ true → (vs : List ℤ) × (curve_values step (p ∷ qs) ≡ p.value ∷ vs)
unfolding spans_right spans_on curve_values values_on
first-value step p [] s e = ([], refl)
first-value step p (q ∷ qs) s e = curve-opens step p q qs s (leb-true step p.span (every-head _ _ e))

-- What its values are, by the points that it takes.
pub record CurveOf (i : Folded) (ps : List Point) : Type 0 where
  pub first : Point
  pub others : List Point
  pub points : take i.times ps ≡ first ∷ others
  pub between : Spans i.each first others (values_of i ps)
  pub many : length (values_of i ps) ≡ 1 + steps_on i.each first others
  pub opens : (vs : List ℤ) × (values_of i ps ≡ first.value ∷ vs)
  pub closes : (vs : List ℤ) × (values_of i ps ≡ vs ++ ((last_point first others).value ∷ []))

module _ (i : Folded) (ps : List Point) (k : i.item.kind ≡ 3) where
  curve-values : (p : Point) (qs : List Point) → take i.times ps ≡ p ∷ qs → values_of i ps ≡ curve_values i.each (p ∷ qs)
  unfolding values_of pick
  curve-values p qs e = rw (k, e)

  -- Each value of a right curve lies between the two points of its span; the first is its first point's and the last its last's, one for each step and one more.
  pub right-curve : curve_right i ps ≡ true → CurveOf i ps
  right-curve e =
      let r = right-spans i ps e in
      let q = some-point i.each (take i.times ps) r in
      let v = curve-values q.0 q.1 q.2 in
      let o = first-value i.each q.0 q.1 (right-step i ps e) (rw q.2 at r) in
      let c = curve-closes i.each q.0 q.1 in
      record {
        first = q.0;
        others = q.1;
        points = q.2;
        between = rw v (curve-between i.each q.0 q.1);
        many = ap length v ∙ curve-length i.each q.0 q.1;
        opens = (o.0, v ∙ o.1);
        closes = (c.0, v ∙ c.1);
      }
