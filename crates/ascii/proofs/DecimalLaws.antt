-- A number's digits, place by place, and that read as a number they give it back, with no zero in front.
-- Assumes nothing.
use mathlib.Core.Path.{◌≡◌, refl, sym}
use mathlib.Core.Bool.{Bool, true, false}
use mathlib.Core.List.{List, [], ◌∷◌, ◌++◌}
use Prim.Native.Nat.{ℕ, zero, suc, ◌+◌, ◌-◌, ◌*◌, ◌/◌, ◌%◌, ◌^◌, ◌<◌, ◌≤◌}
use native.Mathlib.Nat.{pow-suc}
use native.Mathlib.Omega.{arith}
use lib.ListN.{length, get_or, length-append, get_or-append}
use lib.Dec.{ltb}
use borrow.Author.Tests.{lt-ltb, le-ltb, ltb-true, ltb-false}
use Rattle.base.specs.Tests.{pick, every}
use Rattle.base.proofs.TestLaws.{every-pass, every-end, every-head, every_rest, between_in}
use Rattle.ascii.specs.Words.{zero_digit, nine_digit}
use Rattle.ascii.specs.Numbers.{is_digit, all_digits, value_from, value}
use Rattle.ascii.specs.Decimals.{most_places, digits_of, decimal}

-- ---- the digits, in the code's own terms

pub digits-one : (places n : ℕ) → 1 ≤ places → n < 10 → digits_of places n ≡ (zero_digit + n % 10) ∷ []
unfolding digits_of pick
digits-one zero n p q = absurd (omega arith)
digits-one (suc k) n p q = let e : n % 10 ≡ n = omega arith in rw (lt-ltb n 10 q, e)

pub digits_more : (places n : ℕ) → 1 ≤ places → 10 ≤ n → digits_of places n ≡ digits_of (places - 1) (n / 10) ++ ((zero_digit + n % 10) ∷ [])
unfolding digits_of pick
digits_more zero n p q = absurd (omega arith)
digits_more (suc k) n p q = let s : suc k - 1 ≡ k = omega arith in rw (le-ltb n 10 q, s)

-- ten times fewer in one place fewer
pub fewer : (places n : ℕ) → 1 ≤ places → n < 10 ^ places → n / 10 < 10 ^ (places - 1)
fewer zero n p q = absurd (omega arith)
fewer (suc k) n p q =
    let s : suc k - 1 ≡ k = omega arith in
    let m : n < 10 ^ k * 10 = rw (pow-suc 10 k) at q in
    rw s (omega arith)

-- ten or more has a second place
pub second-place : (places n : ℕ) → 10 ≤ n → n < 10 ^ places → 2 ≤ places
second-place zero n p q = absurd (omega arith)
second-place (suc zero) n p q = absurd (omega arith)
second-place (suc (suc k)) n p q = omega arith

-- ---- read as a number

value-both : (sum : ℕ) (xs ys : List ℕ) → value_from sum (xs ++ ys) ≡ value_from (value_from sum xs) ys
unfolding value_from
value-both sum [] ys = refl
value-both sum (x ∷ xs) ys = value-both (10 * sum + (x - zero_digit)) xs ys

value-digit : (sum d : ℕ) → value_from sum ((zero_digit + d) ∷ []) ≡ 10 * sum + d
unfolding value_from
value-digit sum d = let e : zero_digit + d - zero_digit ≡ d = omega arith in rw e

digits_value : (k n : ℕ) → n < 10 ^ k → 1 ≤ k → value_from 0 (digits_of k n) ≡ n
digits_value zero n p q = absurd (omega arith)
digits_value (suc k) n p q = go (ltb n 10) (digits_value k (n / 10)) refl where
  go : (t : Bool) → (n / 10 < 10 ^ k → 1 ≤ k → value_from 0 (digits_of k (n / 10)) ≡ n / 10) → ltb n 10 ≡ t → value_from 0 (digits_of (suc k) n) ≡ n
  go true r e =
      let l : n < 10 = ltb-true n 10 e in
      let v : 10 * 0 + n % 10 ≡ n = omega arith in
      rw (digits-one (suc k) n q l, value-digit 0 (n % 10)) v
  go false r e =
      let l : 10 ≤ n = ltb-false n 10 e in
      let s : suc k - 1 ≡ k = omega arith in
      let t : 2 ≤ suc k = second-place (suc k) n l p in
      let f : n / 10 < 10 ^ k = rw s at (fewer (suc k) n q p) in
      let i : value_from 0 (digits_of k (n / 10)) ≡ n / 10 = r f (omega arith) in
      let v : 10 * (n / 10) + n % 10 ≡ n = omega arith in
      rw (digits_more (suc k) n q l, s, value-both 0 (digits_of k (n / 10)) ((zero_digit + n % 10) ∷ []), i, value-digit (n / 10) (n % 10)) v

pub decimal-value : (n : ℕ) → n < 10 ^ most_places → value (decimal n) ≡ n
unfolding value decimal
decimal-value n p = digits_value most_places n p (omega arith)

-- ---- only digits, and no zero in front

all_both : (xs ys : List ℕ) → all_digits xs ≡ true → all_digits ys ≡ true → all_digits (xs ++ ys) ≡ true
unfolding all_digits
all_both [] ys p q = q
all_both (x ∷ xs) ys p q =
    let r : every (all_digits xs ∷ []) ≡ true = every_rest _ _ p in
    sym (every-pass _ true _ (every-head _ _ p) (every-pass _ true _ (all_both xs ys (every-head _ _ r) q) every-end))

all-digit : (d : ℕ) → d < 10 → all_digits ((zero_digit + d) ∷ []) ≡ true
unfolding all_digits is_digit
all-digit d p = sym (every-pass _ true _ (between_in zero_digit nine_digit (zero_digit + d) (omega arith) (omega arith)) (every-pass _ true _ refl every-end))

digits-all : (k n : ℕ) → all_digits (digits_of k n) ≡ true
unfolding digits_of pick all_digits
digits-all zero n = refl
digits-all (suc k) n = go (ltb n 10) (digits-all k (n / 10)) refl where
  go : (t : Bool) → all_digits (digits_of k (n / 10)) ≡ true → ltb n 10 ≡ t → all_digits (pick t ((zero_digit + n) ∷ []) (digits_of k (n / 10) ++ ((zero_digit + n % 10) ∷ []))) ≡ true
  go true r e = all-digit n (ltb-true n 10 e)
  go false r e = all_both (digits_of k (n / 10)) _ r (all-digit (n % 10) (omega arith))

pub decimal-digits : (n : ℕ) → all_digits (decimal n) ≡ true
unfolding decimal
decimal-digits n = digits-all most_places n

-- the first digit, and that there is one
digits-lead : (k n : ℕ) → 0 < n → n < 10 ^ k → (zero_digit < get_or (digits_of k n) 0 0) × (0 < length (digits_of k n))
digits-lead zero n p q = absurd (omega arith)
digits-lead (suc k) n p q = go (ltb n 10) (digits-lead k (n / 10)) refl where
  go : (t : Bool) → (0 < n / 10 → n / 10 < 10 ^ k → (zero_digit < get_or (digits_of k (n / 10)) 0 0) × (0 < length (digits_of k (n / 10)))) → ltb n 10 ≡ t
      → (zero_digit < get_or (digits_of (suc k) n) 0 0) × (0 < length (digits_of (suc k) n))
  go true r e =
      let l : n < 10 = ltb-true n 10 e in
      rw (digits-one (suc k) n (omega arith) l) (omega arith, omega arith)
  go false r e =
      let l : 10 ≤ n = ltb-false n 10 e in
      let s : suc k - 1 ≡ k = omega arith in
      let f : n / 10 < 10 ^ k = rw s at (fewer (suc k) n (omega arith) q) in
      let i = r (omega arith) f in
      let g : get_or (digits_of k (n / 10) ++ ((zero_digit + n % 10) ∷ [])) 0 0 ≡ get_or (digits_of k (n / 10)) 0 0 = get_or-append (digits_of k (n / 10)) _ 0 0 i.1 in
      rw (digits_more (suc k) n (omega arith) l, s) (rw g i.0, omega (arith, length-append (digits_of k (n / 10)) ((zero_digit + n % 10) ∷ [])))

pub decimal-lead : (n : ℕ) → 0 < n → n < 10 ^ most_places → zero_digit < get_or (decimal n) 0 0
unfolding decimal
decimal-lead n p q = (digits-lead most_places n p q).0

-- ---- how many digits there are at most

digits-short : (places k n : ℕ) → 1 ≤ k → n < 10 ^ k → length (digits_of places n) ≤ k
unfolding digits_of pick
digits-short zero k n p q = omega arith
digits-short (suc places) k n p q = go (ltb n 10) refl (digits-short places (k - 1) (n / 10)) where
  go : (t : Bool) → ltb n 10 ≡ t → (1 ≤ k - 1 → n / 10 < 10 ^ (k - 1) → length (digits_of places (n / 10)) ≤ k - 1)
      → length (pick t ((zero_digit + n) ∷ []) (digits_of places (n / 10) ++ ((zero_digit + n % 10) ∷ []))) ≤ k
  go true e r = omega arith
  go false e r =
      let two : 2 ≤ k = second-place k n (ltb-false n 10 e) q in
      let most = r (omega arith) (fewer k n p q) in
      omega (arith, length-append (digits_of places (n / 10)) ((zero_digit + n % 10) ∷ []))

pub decimal-short : (k n : ℕ) → 1 ≤ k → n < 10 ^ k → length (decimal n) ≤ k
unfolding decimal
decimal-short k n p q = digits-short most_places k n p q
