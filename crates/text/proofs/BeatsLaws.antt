-- "Beats in lowest terms": the denominator is the least that serves, the fraction's value is the delay's, no number above 1 divides both, and it reads back.
-- Assumes nothing.
use mathlib.Core.Path.{◌≡◌, refl, sym, ◌∙◌}
use mathlib.Core.Bool.{Bool, true, false}
use mathlib.Core.List.{List, [], ◌∷◌, ◌++◌, append_assoc, append-nil}
use Prim.Native.Nat.{ℕ, zero, suc, ◌+◌, ◌-◌, ◌*◌, ◌/◌, ◌%◌, ◌<◌, ◌≤◌}
use native.Mathlib.Nat.{zero-mul, mul_assoc, mul_right_comm, mul-mod_left, mul-div_cancel, div-add-mod', mul-le-mul_left, eq_of_mul-eq-mul_right}
use native.Mathlib.Omega.{arith}
use lib.Dec.{ltb, eqb}
use borrow.Author.Tests.{lt-ltb, eqb-true, eqb-false, ltb-true, ltb-false}
use Rattle.base.specs.Tests.{pick, every}
use Rattle.ascii.specs.Words.{space}
use Rattle.ascii.specs.Numbers.{is_digit}
use Rattle.ascii.specs.Decimals.{decimal}
use Rattle.tokens.specs.Bytes.{slash, Stops, nothing, here}
use Rattle.tokens.specs.Tokens.{got, onward}
use Rattle.tokens.specs.Beats.{grains_of_a_beat, field, is_fraction, valued, fraction, beats}
use Rattle.tokens.proofs.TokenLaws.{digits-end, digits-over, number_read}
use Rattle.text.specs.Beats.{least_from, denominator, numerator, over, beats_text}

module _ (g : ℕ) where
  -- ---- the first of the numbers from d on that serves

  least-low : (count d : ℕ) → d ≤ least_from count d g
  unfolding least_from pick
  least-low zero d = omega arith
  least-low (suc n) d = go (eqb (g * d % grains_of_a_beat) 0) (least-low n (suc d)) where
    go : (t : Bool) → suc d ≤ least_from n (suc d) g → d ≤ pick t d (least_from n (suc d) g)
    go true r = omega arith
    go false r = omega arith

  least-high : (count d : ℕ) → least_from count d g ≤ d + count
  unfolding least_from pick
  least-high zero d = omega arith
  least-high (suc n) d = go (eqb (g * d % grains_of_a_beat) 0) (least-high n (suc d)) where
    go : (t : Bool) → least_from n (suc d) g ≤ suc d + n → pick t d (least_from n (suc d) g) ≤ d + suc n
    go true r = omega arith
    go false r = omega arith

  least-whole : (count d : ℕ) → g * (d + count) % grains_of_a_beat ≡ 0 → g * least_from count d g % grains_of_a_beat ≡ 0
  unfolding least_from pick
  least-whole zero d e = let z : d + 0 ≡ d = omega arith in rw z at e
  least-whole (suc n) d e = go (eqb (g * d % grains_of_a_beat) 0) (least-whole n (suc d)) refl where
    go : (t : Bool) → (g * (suc d + n) % grains_of_a_beat ≡ 0 → g * least_from n (suc d) g % grains_of_a_beat ≡ 0) → eqb (g * d % grains_of_a_beat) 0 ≡ t
        → g * pick t d (least_from n (suc d) g) % grains_of_a_beat ≡ 0
    go true r q = eqb-true _ _ q
    go false r q = let z : d + suc n ≡ suc d + n = omega arith in r (rw z at e)

  least-least : (count d k : ℕ) → d ≤ k → k < least_from count d g → g * k % grains_of_a_beat ≡ 0 → ⊥
  unfolding least_from pick
  least-least zero d k p q e = omega arith
  least-least (suc n) d k p q e = go (eqb (g * d % grains_of_a_beat) 0) (least-least n (suc d) k) refl q where
    go : (t : Bool) → (suc d ≤ k → k < least_from n (suc d) g → g * k % grains_of_a_beat ≡ 0 → ⊥) → eqb (g * d % grains_of_a_beat) 0 ≡ t
        → k < pick t d (least_from n (suc d) g) → ⊥
    go true r s l = omega arith
    go false r s l = same-or-more (ltb d k) refl where
      same-or-more : (t : Bool) → ltb d k ≡ t → ⊥
      same-or-more true h = r (omega (arith, ltb-true d k h)) l e
      same-or-more false h = let z : k ≡ d = omega (arith, ltb-false d k h) in eqb-false _ _ s (rw z at e)

  -- ---- the denominator

  pub denominator-some : 1 ≤ denominator g
  unfolding denominator
  denominator-some = least-low (grains_of_a_beat - 1) 1

  pub denominator-most : denominator g ≤ grains_of_a_beat
  unfolding denominator
  denominator-most = omega (arith, least-high (grains_of_a_beat - 1) 1)

  denominator-whole : g * denominator g % grains_of_a_beat ≡ 0
  unfolding denominator
  denominator-whole = least-whole (grains_of_a_beat - 1) 1 (mul-mod_left g grains_of_a_beat)

-- No smaller denominator serves.
pub beats-lowest : (g d : ℕ) → 1 ≤ d → g * d % grains_of_a_beat ≡ 0 → denominator g ≤ d
unfolding denominator
beats-lowest g d p e = go (ltb d (denominator g)) refl where
  go : (t : Bool) → ltb d (denominator g) ≡ t → denominator g ≤ d
  go true h = absurd (least-least g (grains_of_a_beat - 1) 1 d p (ltb-true _ _ h) e)
  go false h = ltb-false _ _ h

-- ---- the fraction's value

-- The fraction is the delay.
pub beats-value : (g : ℕ) → numerator g * grains_of_a_beat ≡ g * denominator g
unfolding numerator
beats-value g = omega (arith, div-add-mod' (g * denominator g) grains_of_a_beat, denominator-whole g)

abbrev pub is_slash : ℕ → Bool
is_slash b = eqb b slash

no_fraction : (bs : List ℕ) (n : ℕ) {ys : List ℕ} → Stops is_slash ys → fraction bs n ys ≡ valued bs n 1 ys
unfolding fraction pick
no_fraction bs n nothing = refl
no_fraction bs n (here e) = rw e

module _ (g : ℕ) where
  fraction-whole : numerator g * grains_of_a_beat % denominator g ≡ 0
  fraction-whole = rw (beats-value g) (mul-mod_left g (denominator g))

  fraction-value : numerator g * grains_of_a_beat / denominator g ≡ g
  fraction-value = rw (beats-value g) (mul-div_cancel g (denominator-some g))

  pub numerator-most : numerator g ≤ g
  numerator-most = small (numerator g) (denominator g) (denominator-most g) (beats-value g) where
    small : (n d : ℕ) → d ≤ grains_of_a_beat → n * grains_of_a_beat ≡ g * d → n ≤ g
    small n d p e = let m : g * d ≤ g * grains_of_a_beat = mul-le-mul_left g p in omega arith

  -- ---- reading it

  module _ (fits : g < field) where
    numerator-fits : numerator g < field
    numerator-fits = omega (arith, numerator-most)

    value_read : (bs left : List ℕ) → valued bs (numerator g) (denominator g) left ≡ got g left
    unfolding valued is_fraction every pick
    value_read bs left =
        rw (lt-ltb 0 (denominator g) (omega (arith, denominator-some g)), fraction-whole, fraction-value, lt-ltb g field fits)

    -- A delay that was written is read, whatever follows that can't go on with it.
    pub beats-back : (ys : List ℕ) → Stops is_digit ys → Stops is_slash ys → beats (beats_text g ++ ys) ≡ got g ys
    unfolding beats beats_text over onward fraction pick
    beats-back ys digits slashes = go (eqb (denominator g) 1) refl where
      go : (t : Bool) → eqb (denominator g) 1 ≡ t → beats ((decimal (numerator g) ++ pick t [] (slash ∷ decimal (denominator g))) ++ ys) ≡ got g ys
      go true e =
          let one : denominator g ≡ 1 = eqb-true _ _ e in
          rw (
            append_assoc (decimal (numerator g)) [] ys,
            number_read field (numerator g) numerator-fits (omega (arith, numerator-fits)) digits,
            no_fraction (decimal (numerator g) ++ ys) (numerator g) slashes,
          )
          (rw one at (value_read (decimal (numerator g) ++ ys) ys))
      go false e =
          rw (
            append_assoc (decimal (numerator g)) (slash ∷ decimal (denominator g)) ys,
            number_read field (numerator g) numerator-fits (omega (arith, numerator-fits)) (digits-over (decimal (denominator g) ++ ys)),
            number_read field (denominator g) (omega (arith, denominator-most g)) (omega (arith, denominator-most g)) digits,
          )
          (value_read _ ys)

    pub beats-read : (ys : List ℕ) → beats (beats_text g ++ (space ∷ ys)) ≡ got g (space ∷ ys)
    beats-read ys = beats-back (space ∷ ys) (digits-end ys) (here refl)

    pub beats-alone : beats (beats_text g) ≡ got g []
    beats-alone = rw append-nil at (beats-back [] nothing nothing)

-- ---- "in lowest terms"

-- Where k divides both, the fraction with both divided serves too: the denominator would not be the least.
lower-serves : (g k n d a b : ℕ) → 1 ≤ k → n * grains_of_a_beat ≡ g * d → n ≡ a * k → d ≡ b * k → g * b % grains_of_a_beat ≡ 0
lower-serves g k n d a b p v en ed =
    let w : a * k * grains_of_a_beat ≡ g * (b * k) = rw (en, ed) at v in
    let e : a * grains_of_a_beat * k ≡ g * b * k = sym (mul_right_comm a k grains_of_a_beat) ∙ w ∙ sym (mul_assoc g b k) in
    let c : a * grains_of_a_beat ≡ g * b = eq_of_mul-eq-mul_right k p (a * grains_of_a_beat) (g * b) e in
    rw (← c) (mul-mod_left a grains_of_a_beat)

not_lower : (k d b : ℕ) → 2 ≤ k → 1 ≤ d → d ≡ b * k → d ≤ b → ⊥
not_lower k d b p q e l = let m : b * 2 ≤ b * k = mul-le-mul_left b p in omega arith

some-lower : (k d b : ℕ) → 1 ≤ d → d ≡ b * k → 1 ≤ b
some-lower k d zero p e = let z : 0 * k ≡ 0 = zero-mul k in omega arith
some-lower k d (suc b) p e = omega arith

-- No number above 1 divides both.
pub lowest-terms : (g k : ℕ) → 1 < k → numerator g % k ≡ 0 → denominator g % k ≡ 0 → ⊥
lowest-terms g k p n d =
    let en : numerator g ≡ numerator g / k * k = omega (arith, div-add-mod' (numerator g) k) in
    let ed : denominator g ≡ denominator g / k * k = omega (arith, div-add-mod' (denominator g) k) in
    let b = denominator g / k in
    let serves = lower-serves g k (numerator g) (denominator g) (numerator g / k) b (omega arith) (beats-value g) en ed in
    not_lower k (denominator g) b (omega arith) (denominator-some g) ed (beats-lowest g b (some-lower k (denominator g) b (denominator-some g) ed) serves)
