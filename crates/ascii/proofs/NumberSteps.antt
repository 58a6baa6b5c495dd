-- One step of reading a number's digits, in the code's own terms, and what the answer tells. The sum of i digits stays below 10 ^ i, so that ten of them never wrap.
-- Assumes nothing.
use mathlib.Core.Path.{◌≡◌, refl, sym, ap, ◌∙◌}
use mathlib.Core.Bool.{Bool, true, false, not}
use mathlib.Core.List.{List, [], ◌∷◌}
use Prim.Native.Nat.{ℕ, ◌+◌, ◌-◌, ◌*◌, ◌^◌, ◌<◌, ◌≤◌}
use native.Mathlib.Nat.{pow-suc, pow-le-pow_right}
use native.Mathlib.Numerals.{add-one}
use native.Mathlib.Omega.{arith}
use lib.ListN.{length, drop, get_or, drop_of_length-le}
use borrow.Author.Rules.{rules}
use Rattle.base.specs.Tests.{pick, every}
use Rattle.base.proofs.TestLaws.{every-pass, every-stop, every-last, every-end, between_in, between-under, between-over, between-low, between-high, pick_true, pick-false, told-true, told-false}
use Rattle.std.specs.Prelude.{Option, Some, None}
use Rattle.ascii.specs.Words.{zero_digit, nine_digit}
use Rattle.ascii.specs.Numbers.{most_digits, is_digit, all_digits, is_number, value_from, value, number_of}
use Rattle.ascii.proofs.WordSteps.{drop-next}

-- ---- a digit

module _ (b : ℕ) (t : Bool) (told : t ≡ is_digit b) (digit : not t ≡ false) where
  pub digit_low : zero_digit ≤ b
  unfolding is_digit
  digit_low = between-low zero_digit nine_digit b (told-true t _ told digit)

  pub digit-high : b ≤ nine_digit
  unfolding is_digit
  digit-high = between-high zero_digit nine_digit b (told-true t _ told digit)

-- ---- what is no number

no_number : (bs : List ℕ) → is_number bs ≡ false → None ≡ number_of bs
unfolding number_of
no_number bs e = pick-false _ _ _ _ e refl

pub number_short : (bs : List ℕ) → length bs < 1 → None ≡ number_of bs
unfolding is_number
number_short bs p = no_number bs (sym (every-stop _ _ (between-under 1 most_digits (length bs) p)))

pub long-no-number : (bs : List ℕ) → most_digits < length bs → is_number bs ≡ false
unfolding is_number
long-no-number bs p = sym (every-stop _ _ (between-over 1 most_digits (length bs) p))

pub number-long : (bs : List ℕ) → most_digits < length bs → None ≡ number_of bs
number-long bs p = no_number bs (long-no-number bs p)

pub not-two : (a b : Bool) → b ≡ false → every (a ∷ b ∷ []) ≡ false
unfolding every
not-two true b e = rw e
not-two false b e = refl

odd-digit : (bs : List ℕ) → all_digits bs ≡ false → None ≡ number_of bs
unfolding is_number
odd-digit bs e = no_number bs (not-two _ _ e)

-- ---- a digit more

pub sum-start : 0 < 10 ^ 0
sum-start = omega arith

pub value-start : (bs : List ℕ) → value_from 0 (drop 0 bs) ≡ value bs
unfolding value
value-start bs = refl

module _ (bs : List ℕ) (i : ℕ) (more : i < length bs) where
  digits_more : all_digits (drop i bs) ≡ every (is_digit (get_or bs i 0) ∷ all_digits (drop (i + 1) bs) ∷ [])
  unfolding all_digits
  digits_more = rw (drop-next bs i more)

  module _ (t : Bool) (told : t ≡ is_digit (get_or bs i 0)) (e : all_digits (drop i bs) ≡ all_digits bs) where
    pub digits-bad : not t ≡ true → None ≡ number_of bs
    digits-bad p = odd-digit bs (sym e ∙ digits_more ∙ sym (every-stop _ _ (told-false t _ told p)))

    pub digits_step : not t ≡ false → all_digits (drop (i + 1) bs) ≡ all_digits bs
    digits_step p = every-pass _ _ _ (told-true t _ told p) (every-last _ _ refl) ∙ sym digits_more ∙ e

  pub value-step : (sum d : ℕ) → d ≡ get_or bs i 0 - zero_digit → value_from sum (drop i bs) ≡ value bs → value_from (10 * sum + d) (drop (i + 1) bs) ≡ value bs
  unfolding value_from
  value-step sum d p e = rw p (rw (drop-next bs i more) at e)

pub sum_step : (i sum b d : ℕ) → sum < 10 ^ i → b ≤ nine_digit → d ≡ b - zero_digit → 10 * sum + d < 10 ^ (i + 1)
sum_step i sum b d p q e = rw (add-one, pow-suc) (omega arith)

-- ---- no sum of ten digits wraps

sum-small : (i n sum : ℕ) → sum < 10 ^ i → i < n → n ≤ most_digits → sum < 1000000000
sum-small i n sum p l h =
    let m : 10 ^ i ≤ 10 ^ 9 = pow-le-pow_right {n = 10} (omega arith) {i = i} {j = 9} (omega arith) in
    omega arith

pub ten-fits : (i n sum : ℕ) → sum < 10 ^ i → i < n → n ≤ most_digits → 10 * sum < 2 ^ 64
ten-fits i n sum p l h = omega (arith, sum-small i n sum p l h)

pub sum_fits : (i n sum b d : ℕ) → sum < 10 ^ i → i < n → n ≤ most_digits → b ≤ nine_digit → d ≡ b - zero_digit → 10 * sum + d < 2 ^ 64
sum_fits i n sum b d p l h q e = omega (arith, sum-small i n sum p l h)

-- ---- all digits read

pub number_read : (bs : List ℕ) (i sum : ℕ) → 1 ≤ length bs → length bs ≤ most_digits → length bs ≤ i → all_digits (drop i bs) ≡ all_digits bs → value_from sum (drop i bs) ≡ value bs
    → Some sum ≡ number_of bs
unfolding number_of is_number all_digits value_from
number_read bs i sum p q l e v =
    let d : true ≡ all_digits bs = rw (drop_of_length-le bs l) at e in
    let w : sum ≡ value bs = rw (drop_of_length-le bs l) at v in
    pick_true _ _ _ _ (sym (every-pass _ true _ (between_in 1 most_digits _ p q) (every-pass _ true _ (sym d) every-end))) (ap Some w)

pub ruleset reading = (digit_low, digit-high, number_short, number-long, digits-bad, digits_step, value-start, value-step, sum-start, sum_step, ten-fits, sum_fits, number_read, rules)

-- ---- what reading a number told

number-told : (bs : List ℕ) (t : Bool) (a : ℕ) → pick t (Some (value bs)) None ≡ Some a → (t ≡ true) × (a ≡ value bs)
unfolding pick
number-told bs true a e = (refl, cc)
number-told bs false a e = let z : ◌≡◌ {A = ℕ} 0 1 = cc in absurd (omega arith)

number-not : (bs : List ℕ) (t : Bool) → pick t (Some (value bs)) None ≡ None → t ≡ false
unfolding pick
number-not bs true e = let z : ◌≡◌ {A = ℕ} 0 1 = cc in absurd (omega arith)
number-not bs false e = refl

module _ (bs : List ℕ) (v : Option ℕ) (e : v ≡ number_of bs) where
  pub told-number : (a : ℕ) → v ≡ Some a → is_number bs ≡ true
  unfolding number_of
  told-number a p = (number-told bs (is_number bs) a (sym e ∙ p)).0

  pub told-value : (a : ℕ) → v ≡ Some a → a ≡ value bs
  unfolding number_of
  told-value a p = (number-told bs (is_number bs) a (sym e ∙ p)).1

  pub told_none : v ≡ None → is_number bs ≡ false
  unfolding number_of
  told_none p = number-not bs (is_number bs) (sym e ∙ p)
