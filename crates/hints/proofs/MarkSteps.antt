-- Each test of single bytes, in the code's own terms.
-- Assumes nothing.
use mathlib.Core.Path.{◌≡◌, ap, ◌∙◌}
use mathlib.Core.Bool.{Bool, true, false, not}
use mathlib.Core.List.{List, [], ◌∷◌}
use Prim.Native.Nat.{ℕ, ◌+◌, ◌-◌, ◌<◌, ◌≤◌}
use native.Mathlib.Omega.{arith}
use lib.Dec.{eqb}
use lib.ListN.{length, get_or, length-drop, get_or-eq_default}
use borrow.Author.Tests.{eq-eqb, ne_eqb, le-leb, lt-leb}
use borrow.Author.Rules.{rules}
use Rattle.base.specs.Tests.{pick, every, between}
use Rattle.base.proofs.TestLaws.{every-pass, every-stop, every-last, told-true, told-false}
use Rattle.ascii.specs.Words.{begins}
use Rattle.ascii.specs.Numbers.{is_digit}
use Rattle.tokens.specs.Tokens.{blanks}
use Rattle.tokens.specs.Asked.{Passes}
use Rattle.hints.specs.Hints.{byte_order_mark, is_point, is_first, is_mark, is_decimal}

-- ---- the text's front

module _ (t : List ℕ) (at : ℕ) where
  pub mark-later : (at ≡ 0 → ⊥) → false ≡ is_mark t at
  unfolding is_mark
  mark-later n = every-stop _ _ (ne_eqb at 0 n)

  pub mark-told : (r : Bool) → at ≡ 0 → r ≡ begins byte_order_mark t → r ≡ is_mark t at
  unfolding is_mark
  mark-told r p e = every-pass _ _ _ (eq-eqb at 0 p) (every-last _ _ e)

  pub first-told : (k : ℕ) → Passes t 0 k → eqb at k ≡ is_first t at
  unfolding is_first
  first-told k p =
      let b : length (blanks t) ≡ length t - k = ap (λ (l : List ℕ). length l) p.left ∙ length-drop k t in
      let e : length t - length (blanks t) ≡ k = omega (arith, p.within) in
      rw e

pub ruleset fronts = (mark-later, mark-told, first-told, rules)

-- ---- a point between two digits

module _ (b : ℕ) where
  pub point-dot : b ≡ 46 → true ≡ is_point b
  unfolding is_point pick
  point-dot e = rw e

  pub point-comma : b ≡ 44 → true ≡ is_point b
  unfolding is_point pick
  point-comma e = rw e

  pub point-none : (b ≡ 46 → ⊥) → (b ≡ 44 → ⊥) → false ≡ is_point b
  unfolding is_point pick
  point-none m n = rw (ne_eqb b 46 m, ne_eqb b 44 n)

pub ruleset point-tests = (point-dot, point-comma, point-none, rules)

module _ (t : List ℕ) (at : ℕ) where
  pub digit-past : length t ≤ at → false ≡ is_digit (get_or t at 0)
  unfolding is_digit between every
  digit-past p = rw (get_or-eq_default t 0 {n = at} p)

  point-past : length t ≤ at → is_point (get_or t at 0) ≡ false
  unfolding is_point pick
  point-past p = rw (get_or-eq_default t 0 {n = at} p)

  pub decimal-front : at < 1 → false ≡ is_decimal t at
  unfolding is_decimal
  decimal-front p = every-stop _ _ (lt-leb 1 at p)

  module _ (p : 1 ≤ at) (a : Bool) (told : a ≡ is_digit (get_or t (at - 1) 0)) where
    pub decimal-first : not a ≡ true → false ≡ is_decimal t at
    unfolding is_decimal
    decimal-first n = every-pass _ _ _ (le-leb 1 at p) (every-stop _ _ (told-false a _ told n))

    module _ (digit : not a ≡ false) where
      digits : (r : Bool) → r ≡ every (is_point (get_or t at 0) ∷ is_digit (get_or t (at + 1) 0) ∷ []) → r ≡ is_decimal t at
      unfolding is_decimal
      digits r e = every-pass _ _ _ (le-leb 1 at p) (every-pass _ _ _ (told-true a _ told digit) e)

      pub decimal-end : length t ≤ at → false ≡ is_decimal t at
      decimal-end q = digits false (every-stop _ _ (point-past q))

      module _ (c : Bool) (point : c ≡ is_point (get_or t at 0)) where
        pub decimal-other : not c ≡ true → false ≡ is_decimal t at
        decimal-other n = digits false (every-stop _ _ (told-false c _ point n))

        pub decimal-last : not c ≡ false → (r : Bool) → r ≡ is_digit (get_or t (at + 1) 0) → r ≡ is_decimal t at
        decimal-last y r e = digits r (every-pass _ _ _ (told-true c _ point y) (every-last _ _ e))

pub ruleset decimals = (digit-past, decimal-front, decimal-first, decimal-end, decimal-other, decimal-last, rules)
