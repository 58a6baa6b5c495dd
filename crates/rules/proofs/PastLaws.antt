-- Past and future items, by their dates: all that other laws of this crate use of `past` and `future_date`, but that in Grow one reading and the next are asked alike.
-- Assumes nothing.
use mathlib.Core.Path.{◌≡◌, ap}
use Prim.Native.Nat.{ℕ, ◌+◌, ◌≤◌}
use mathlib.Core.Bool.{true, false}
use native.Mathlib.Omega.{arith}
use lib.Dec.{ltb}
use borrow.Author.Tests.{ltb-false, le-ltb, lt-ltb}
use Rattle.rules.specs.Rules.{Reading, past, future_date}
use Rattle.rules.specs.Document01.{past01}

module _ (R : Reading) (j : ℕ) where
  -- No past item comes after a future one.
  pub past_first : (t u : ℕ) → t ≤ u → past R j t ≡ false → past R j u ≡ false
  unfolding past
  past_first t u l p = le-ltb (u + R.grace) (R.start j) (omega (arith, ltb-false (t + R.grace) (R.start j) p))

  -- A future item is dated E(j) or later, a later one no earlier, and none after both its own date and E(j).
  pub future-from : (t : ℕ) → R.start j ≤ future_date R j t
  unfolding future_date
  future-from t = omega arith

  pub future-rises : (t u : ℕ) → t ≤ u → future_date R j t ≤ future_date R j u
  unfolding future_date
  future-rises t u l = omega arith

  pub future-to : (t n : ℕ) → t ≤ n → R.start j ≤ n → future_date R j t ≤ n
  unfolding future_date
  future-to t n l k = omega arith

  -- At the limit: the grace before E(j) an item is future, and a grain earlier it is past.
  pub future-at-limit : (t : ℕ) → t + R.grace ≡ R.start j → past R j t ≡ false
  unfolding past
  future-at-limit t e = le-ltb (t + R.grace) (R.start j) (omega arith)

  pub past-before-limit : (t : ℕ) → t + 1 + R.grace ≡ R.start j → past R j t ≡ true
  unfolding past
  past-before-limit t e = lt-ltb (t + R.grace) (R.start j) (omega arith)

  -- Where E(j) is no later than the grace, nothing is past; nor is what starts at E(j) or later, whatever the grace.
  pub none-past : (t : ℕ) → R.start j ≤ R.grace → past R j t ≡ false
  unfolding past
  none-past t l = le-ltb (t + R.grace) (R.start j) (omega arith)

  pub late-future : (t : ℕ) → R.start j ≤ t → past R j t ≡ false
  unfolding past
  late-future t l = le-ltb (t + R.grace) (R.start j) (omega arith)

  -- Before E(j) an item is dated E(j), from there on by its own date.
  pub future-raised : (t : ℕ) → t ≤ R.start j → future_date R j t ≡ R.start j
  unfolding future_date
  future-raised t l = omega arith

  pub future-kept : (t : ℕ) → R.start j ≤ t → future_date R j t ≡ t
  unfolding future_date
  future-kept t l = omega arith

  -- With no grace past is what starts before E(j), so that a future item keeps its date.
  pub past-01 : (t : ℕ) → R.grace ≡ 0 → past R j t ≡ past01 R j t
  unfolding past past01
  past-01 t e = let z : t + R.grace ≡ t = omega arith in ap (λ (u : ℕ). ltb u (R.start j)) z

  pub future-01 : (t : ℕ) → past01 R j t ≡ false → future_date R j t ≡ t
  unfolding past01
  future-01 t p = future-kept t (ltb-false t (R.start j) p)

-- Of a reading they ask for E(j) and the grace alone.
module _ (R Q : Reading) (j t : ℕ) (same : R.start j ≡ Q.start j) where
  pub past-agrees : R.grace ≡ Q.grace → past R j t ≡ past Q j t
  unfolding past
  past-agrees e = rw (same, e)

  pub future-agrees : future_date R j t ≡ future_date Q j t
  unfolding future_date
  future-agrees = rw same
