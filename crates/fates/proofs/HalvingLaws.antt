-- The bisection: any number of halvings that is enough for what is left gives the same event.
-- Assumes nothing.
use mathlib.Core.Path.{◌≡◌, refl, sym, ◌∙◌}
use mathlib.Core.Bool.{Bool, true, false}
use mathlib.Core.List.{List}
use Prim.Native.Nat.{ℕ, zero, suc, ◌+◌, ◌-◌, ◌/◌, ◌^◌, ◌≤◌, ◌<◌}
use native.Mathlib.Omega.{arith}
use native.Mathlib.Nat.{two-pow-succ}
use lib.Dec.{leb}
use borrow.Author.Tests.{le-leb, lt-leb}
use borrow.Author.Rules.{rules}
use Rattle.fates.specs.declared.Places.{Places}
use Rattle.fates.specs.Places.{start_at, halved, last_in, reading_in}

-- a halving, by its test
halved-later : (n : ℕ) (start : ℕ → ℕ) (lo size d : ℕ) → start (lo + size / 2) ≤ d → halved (suc n) start lo size d ≡ halved n start (lo + size / 2) (size - size / 2) d
unfolding halved
halved-later n start lo size d h = rw (le-leb _ d h, halved)

halved-earlier : (n : ℕ) (start : ℕ → ℕ) (lo size d : ℕ) → d < start (lo + size / 2) → halved (suc n) start lo size d ≡ halved n start lo (size / 2) d
unfolding halved
halved-earlier n start lo size d h = rw (lt-leb _ d h, halved)

-- one event is left, or none
halved-one : (n : ℕ) (start : ℕ → ℕ) (lo size d : ℕ) → size ≤ 1 → halved n start lo size d ≡ lo
unfolding halved
halved-one zero start lo size d h = refl
halved-one (suc n) start lo size d h = go (leb (start (lo + size / 2)) d) refl (halved-one n start (lo + size / 2) (size - size / 2) d (omega arith)) (halved-one n start lo (size / 2) d (omega arith))
  where
    go : (b : Bool) → leb (start (lo + size / 2)) d ≡ b → halved n start (lo + size / 2) (size - size / 2) d ≡ lo + size / 2 → halved n start lo (size / 2) d ≡ lo → halved (suc n) start lo size d ≡ lo
    go true e p q =
        let z : lo + size / 2 ≡ lo = omega arith in
        rw (e, halved) (p ∙ z)
    go false e p q = rw (e, halved) q

-- one halving more than enough
halved-enough : (n : ℕ) (start : ℕ → ℕ) (lo size d : ℕ) → size ≤ 2 ^ n → halved (suc n) start lo size d ≡ halved n start lo size d
unfolding halved
halved-enough zero start lo size d h = halved-one 1 start lo size d (omega arith)
halved-enough (suc n) start lo size d h =
    go (leb (start (lo + size / 2)) d) refl (halved-enough n start (lo + size / 2) (size - size / 2) d (omega (arith, two-pow-succ n))) (halved-enough n start lo (size / 2) d (omega (arith, two-pow-succ n)))
  where
    go : (b : Bool) → leb (start (lo + size / 2)) d ≡ b
        → halved (suc n) start (lo + size / 2) (size - size / 2) d ≡ halved n start (lo + size / 2) (size - size / 2) d
        → halved (suc n) start lo (size / 2) d ≡ halved n start lo (size / 2) d
        → halved (suc (suc n)) start lo size d ≡ halved (suc n) start lo size d
    go true e p q = rw (e, halved, halved) p
    go false e p q = rw (e, halved, halved) q

module _ (t : Places) (m : List ℕ) where
  pub halving-first : (d : ℕ) → halved 8 (start_at t m) 1 t.events d ≡ (reading_in t m).last_before d
  unfolding reading_in last_in
  halving-first d = refl

  module _ (low size d s W : ℕ) (is : s ≡ (reading_in t m).start (low + size / 2)) (few : size ≤ 256) where
    pub halving-later : s ≤ d → halved 8 (start_at t m) low size d ≡ W → halved 8 (start_at t m) (low + size / 2) (size - size / 2) d ≡ W
    unfolding reading_in
    halving-later h p =
        halved-enough 7 (start_at t m) (low + size / 2) (size - size / 2) d (omega arith)
        ∙ sym (halved-later 7 (start_at t m) low size d (rw is at h))
        ∙ p

    pub halving-earlier : d < s → halved 8 (start_at t m) low size d ≡ W → halved 8 (start_at t m) low (size / 2) d ≡ W
    unfolding reading_in
    halving-earlier h p =
        halved-enough 7 (start_at t m) low (size / 2) d (omega arith)
        ∙ sym (halved-earlier 7 (start_at t m) low size d (rw is at h))
        ∙ p

  pub halving-done : (low size d W : ℕ) → size ≤ 1 → halved 8 (start_at t m) low size d ≡ W → low ≡ W
  halving-done low size d W h p = sym (halved-one 8 (start_at t m) low size d h) ∙ p

pub ruleset halvings = (halving-first, halving-later, halving-earlier, halving-done, rules)
