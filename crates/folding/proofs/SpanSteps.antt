-- The spans of a curve, point by point: the spans passed are right, so those left decide.
-- Assumes nothing.
use mathlib.Core.Path.{◌≡◌, refl, sym, ◌∙◌}
use mathlib.Core.Bool.{false}
use mathlib.Core.List.{List, [], ◌∷◌}
use Prim.Native.Nat.{ℕ, zero, suc, ◌+◌, ◌-◌, ◌%◌, ◌<◌, ◌≤◌}
use native.Mathlib.Omega.{arith}
use lib.Dec.{leb, eqb}
use borrow.Author.Rules.{rules}
use borrow.Author.Tests.{le-leb, lt-leb, eq-eqb, ne_eqb}
use Rattle.base.specs.Tests.{every}
use Rattle.base.proofs.TestLaws.{every-pass, every-stop, every-last}
use Rattle.contents.specs.Bytes.{u32_at}
use Rattle.extended.specs.Layout.{point_size}
use Rattle.extended.specs.Points.{point_at, points_from, spans_on, spans_right}

module _ (f : List ℕ) (step : ℕ) where
  spans-two : (p left : ℕ) → 1 < left
      → spans_right step (points_from f p left)
      ≡ every (leb step (u32_at f (p + 4)) ∷ eqb (u32_at f (p + 4) % step) 0 ∷ spans_right step (points_from f (p + point_size) (left - 1)) ∷ [])
  unfolding spans_right spans_on points_from point_at
  spans-two p zero h = absurd (omega arith)
  spans-two p (suc zero) h = absurd (omega arith)
  spans-two p (suc (suc n)) h = let s : suc (suc n) - 1 ≡ suc n = omega arith in rw s

  spans-one : (p left : ℕ) → 1 ≤ left → left ≤ 1 → spans_right step (points_from f p left) ≡ eqb (u32_at f (p + 4)) 0
  unfolding spans_right spans_on points_from point_at
  spans-one p zero h l = absurd (omega arith)
  spans-one p (suc zero) h l = refl
  spans-one p (suc (suc n)) h l = absurd (omega arith)

module _ (f : List ℕ) (step at count p left span : ℕ) (so_far : spans_right step (points_from f p left) ≡ spans_right step (points_from f at count)) where
  pub spans-short : 1 < left → span ≡ u32_at f (p + 4) → span < step → false ≡ spans_right step (points_from f at count)
  spans-short h e l = every-stop _ _ (lt-leb step (u32_at f (p + 4)) (omega arith)) ∙ (sym (spans-two f step p left h) ∙ so_far)

  pub spans-part : 1 < left → span ≡ u32_at f (p + 4) → step ≤ span → (span % step ≡ 0 → ⊥) → false ≡ spans_right step (points_from f at count)
  spans-part h e l n =
      every-pass _ false _ (le-leb step (u32_at f (p + 4)) (omega arith)) (every-stop _ _ (ne_eqb (u32_at f (p + 4) % step) 0 (rw e at n)))
      ∙ (sym (spans-two f step p left h) ∙ so_far)

  pub spans-more : (q rest : ℕ) → q ≡ p + point_size → rest ≡ left - 1 → 1 < left → span ≡ u32_at f (p + 4) → step ≤ span → span % step ≡ 0
      → spans_right step (points_from f q rest) ≡ spans_right step (points_from f at count)
  spans-more q rest a b h e l n =
      rw (a, b)
      (every-pass _ _ _ (le-leb step (u32_at f (p + 4)) (omega arith)) (every-pass _ _ _ (eq-eqb (u32_at f (p + 4) % step) 0 (rw e at n)) (every-last _ _ refl))
      ∙ (sym (spans-two f step p left h) ∙ so_far))

  pub spans-last : (q : ℕ) → q ≡ p → 1 ≤ left → left ≤ 1 → span ≡ u32_at f (q + 4) → eqb span 0 ≡ spans_right step (points_from f at count)
  spans-last q a h l e = rw (e, a) (sym (spans-one f step p left h l) ∙ so_far)

pub spans-start : (f : List ℕ) (step at count q all : ℕ) → q ≡ at → all ≡ count → spans_right step (points_from f q all) ≡ spans_right step (points_from f at count)
spans-start f step at count q all e a = rw (e, a)

pub ruleset spans = (spans-start, spans-short, spans-part, spans-more, spans-last, rules)
