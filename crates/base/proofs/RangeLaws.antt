-- Laws of a decision over ranges: a case that ends before the number is passed over, the one that it lies in decides, and behind the last it is the other.
-- Assumes nothing.
use mathlib.Core.Path.{◌≡◌, refl, sym}
use mathlib.Core.Bool.{true, false}
use mathlib.Core.List.{List, [], ◌∷◌}
use Prim.Native.Nat.{ℕ, ◌≤◌, ◌<◌}
use Rattle.base.specs.Tests.{between}
use Rattle.base.specs.Ranges.{Case, ◌to◌⇒◌, by_range}
use Rattle.base.proofs.TestLaws.{between_in, between-under, between-over, pick_true, pick-false}

-- ---- one range

module _ (lo hi x : ℕ) where
  pub told_in : lo ≤ x → x ≤ hi → true ≡ between lo hi x
  told_in p q = sym (between_in lo hi x p q)

  pub told_under : x < lo → false ≡ between lo hi x
  told_under p = sym (between-under lo hi x p)

  pub told_over : hi < x → false ≡ between lo hi x
  told_over p = sym (between-over lo hi x p)

-- ---- several ranges

module _ {A : Type 0} where
  module _ {x hi : ℕ} {r : A} where
    pub range-over : (lo : ℕ) (a : A) (cases : List (Case A)) (other : A) → hi < x → r ≡ by_range x cases other → r ≡ by_range x (lo to hi ⇒ a ∷ cases) other
    unfolding by_range
    range-over lo a cases other p e = pick-false _ _ _ _ (between-over lo hi x p) e

    pub range-in : {lo : ℕ} {a : A} (cases : List (Case A)) (other : A) → lo ≤ x → x ≤ hi → r ≡ a → r ≡ by_range x (lo to hi ⇒ a ∷ cases) other
    unfolding by_range
    range-in {lo} cases other p q e = pick_true _ _ _ _ (between_in lo hi x p q) e

  pub range_none : (x : ℕ) (other : A) → other ≡ by_range x [] other
  unfolding by_range
  range_none x other = refl
