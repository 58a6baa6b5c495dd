-- Laying out a number's digits: how many there are, and each step of writing them from the last to the first.
-- Assumes nothing.
use mathlib.Core.Path.{◌≡◌, refl, sym, ap, ◌∙◌}
use mathlib.Core.Bool.{Bool, true, false}
use mathlib.Core.List.{List, [], ◌∷◌, ◌++◌}
use Prim.Native.Nat.{ℕ, zero, suc, ◌+◌, ◌-◌, ◌*◌, ◌/◌, ◌%◌, ◌^◌, ◌<◌, ◌≤◌}
use native.Mathlib.Omega.{arith}
use lib.ListN.{length, set, length-append, length-set}
use lib.Seq.{set_comm}
use lib.Dec.{ltb}
use borrow.Author.Tests.{ltb-true, ltb-false}
use borrow.Author.Rules.{rules}
use Rattle.ascii.specs.Words.{zero_digit}
use Rattle.ascii.specs.Decimals.{most_places, digits_of, decimal}
use Rattle.ascii.specs.Laying.{Laid}
use Rattle.ascii.proofs.LayLaws.{laid-nothing, laid-byte, laid-before}
use Rattle.ascii.proofs.DecimalLaws.{digits-one, digits_more, fewer, second-place}

-- ---- how many there are

one_place : (places n : ℕ) → 1 ≤ places → n < 10 → length (digits_of places n) ≡ 1
one_place places n p q = rw (digits-one places n p q)

one_more : (places n : ℕ) → 1 ≤ places → 10 ≤ n → length (digits_of places n) ≡ suc (length (digits_of (places - 1) (n / 10)))
one_more places n p q = rw (digits_more places n p q, length-append) (omega arith)

four-more : (places n : ℕ) → 4 ≤ places → 10000 ≤ n → length (digits_of places n) ≡ 4 + length (digits_of (places - 4) (n / 10000))
four-more places n p q =
    let e : n / 10 / 10 / 10 / 10 ≡ n / 10000 = omega arith in
    let s : places - 1 - 1 - 1 - 1 ≡ places - 4 = omega arith in
    let a = one_more places n (omega arith) (omega arith) in
    let b = one_more (places - 1) (n / 10) (omega arith) (omega arith) in
    let c = one_more (places - 1 - 1) (n / 10 / 10) (omega arith) (omega arith) in
    let d = one_more (places - 1 - 1 - 1) (n / 10 / 10 / 10) (omega arith) (omega arith) in
    rw (← e, ← s) (omega arith)

eight-more : (places n : ℕ) → 8 ≤ places → 100000000 ≤ n → length (digits_of places n) ≡ 8 + length (digits_of (places - 8) (n / 100000000))
eight-more places n p q =
    let e : n / 10000 / 10000 ≡ n / 100000000 = omega arith in
    let s : places - 4 - 4 ≡ places - 8 = omega arith in
    let a = four-more places n (omega arith) (omega arith) in
    let b = four-more (places - 4) (n / 10000) (omega arith) (omega arith) in
    rw (← e, ← s) (omega arith)

-- places that a number does not need change nothing
spare : (k more n : ℕ) → n < 10 ^ k → 1 ≤ k → digits_of (k + more) n ≡ digits_of k n
spare zero more n p q = absurd (omega arith)
spare (suc k) more n p q = go (ltb n 10) (spare k more (n / 10)) refl where
  go : (t : Bool) → (n / 10 < 10 ^ k → 1 ≤ k → digits_of (k + more) (n / 10) ≡ digits_of k (n / 10)) → ltb n 10 ≡ t → digits_of (suc k + more) n ≡ digits_of (suc k) n
  go true r e =
      let l : n < 10 = ltb-true n 10 e in
      rw (digits-one (suc k + more) n (omega arith) l, digits-one (suc k) n q l)
  go false r e =
      let l : 10 ≤ n = ltb-false n 10 e in
      let s : suc k - 1 ≡ k = omega arith in
      let t : suc k + more - 1 ≡ k + more = omega arith in
      let u : 2 ≤ suc k = second-place (suc k) n l p in
      let f : n / 10 < 10 ^ k = rw s at (fewer (suc k) n q p) in
      rw (digits_more (suc k + more) n (omega arith) l, digits_more (suc k) n q l, s, t, r f (omega arith))

few : (more n : ℕ) → n < 10000 → length (digits_of (4 + more) n) ≡ length (digits_of 4 n)
few more n p = ap length (spare 4 more n p (omega arith))

module _ (n : ℕ) where
  pub few-one : n < 10 → 1 ≡ length (digits_of 4 n)
  few-one p = sym (one_place 4 n (omega arith) p)

  pub few-two : 10 ≤ n → n < 100 → 2 ≡ length (digits_of 4 n)
  few-two p q = omega (arith, one_more 4 n (omega arith) p, one_place 3 (n / 10) (omega arith) (omega arith))

  pub few-three : 100 ≤ n → n < 1000 → 3 ≡ length (digits_of 4 n)
  few-three p q =
      omega (arith, one_more 4 n (omega arith) (omega arith), one_more 3 (n / 10) (omega arith) (omega arith), one_place 2 (n / 10 / 10) (omega arith) (omega arith))

  pub few-four : 1000 ≤ n → n < 10000 → 4 ≡ length (digits_of 4 n)
  few-four p q =
      omega (
        arith,
        one_more 4 n (omega arith) (omega arith),
        one_more 3 (n / 10) (omega arith) (omega arith),
        one_more 2 (n / 10 / 10) (omega arith) (omega arith),
        one_place 1 (n / 10 / 10 / 10) (omega arith) (omega arith),
      )

  module _ (r : ℕ) where
    pub upto-four : n < 10000 → r ≡ length (digits_of 4 n) → r ≡ length (decimal n)
    unfolding decimal
    upto-four p e = e ∙ sym (few 16 n p)

    pub upto-eight : 10000 ≤ n → n < 100000000 → r ≡ length (digits_of 4 (n / 10000)) → 4 + r ≡ length (decimal n)
    unfolding decimal
    upto-eight p q e = omega (arith, four-more 20 n (omega arith) p, few 12 (n / 10000) (omega arith))

    pub upto-twelve : 100000000 ≤ n → n < 1000000000000 → r ≡ length (digits_of 4 (n / 100000000)) → 8 + r ≡ length (decimal n)
    unfolding decimal
    upto-twelve p q e = omega (arith, eight-more 20 n (omega arith) p, few 8 (n / 100000000) (omega arith))

    pub upto-sixteen : 1000000000000 ≤ n → n < 10000000000000000 → r ≡ length (digits_of 4 (n / 1000000000000)) → 12 + r ≡ length (decimal n)
    unfolding decimal
    upto-sixteen p q e =
        let a : n / 100000000 / 10000 ≡ n / 1000000000000 = omega arith in
        let b = rw a at (four-more 12 (n / 100000000) (omega arith) (omega arith)) in
        omega (arith, eight-more 20 n (omega arith) (omega arith), few 4 (n / 1000000000000) (omega arith))

    pub upto-twenty : 10000000000000000 ≤ n → r ≡ length (digits_of 4 (n / 10000000000000000)) → 16 + r ≡ length (decimal n)
    unfolding decimal
    upto-twenty p e =
        let a : n / 100000000 / 100000000 ≡ n / 10000000000000000 = omega arith in
        let b = rw a at (eight-more 12 (n / 100000000) (omega arith) (omega arith)) in
        omega (arith, eight-more 20 n (omega arith) (omega arith))

pub ruleset counting = (few-one, few-two, few-three, few-four, upto-four, upto-eight, upto-twelve, upto-sixteen, upto-twenty, rules)

-- ---- writing them from the last to the first

-- The bytes after so many places of n were written, from the last to the first.
unfoldable pub filled : (bytes : List ℕ) (at places n : ℕ) → List ℕ
filled bytes at zero n = bytes
filled bytes at (suc k) n = filled (set bytes (at + k) (zero_digit + n % 10)) at k (n / 10)

none_filled : (n at : ℕ) (o : List ℕ) → at + length (digits_of zero n) ≤ length o → Laid o at (digits_of zero n) (filled o at (length (digits_of zero n)) n) (at + length (digits_of zero n))
unfolding digits_of filled
none_filled n at o p = let z : at + 0 ≡ at = omega arith in rw z (laid-nothing o at (omega arith))

one-filled : (o : List ℕ) (at n : ℕ) → at + 1 ≤ length o → Laid o at ((zero_digit + n % 10) ∷ []) (filled o at 1 n) (at + 1)
unfolding filled
one-filled o at n p = let z : at + 0 ≡ at = omega arith in rw z (laid-byte o at (zero_digit + n % 10) p)

more-filled : (o xs : List ℕ) (at n : ℕ) → at + suc (length xs) ≤ length o
    → Laid (set o (at + length xs) (zero_digit + n % 10)) at xs (filled (set o (at + length xs) (zero_digit + n % 10)) at (length xs) (n / 10)) (at + length xs)
    → Laid o at (xs ++ ((zero_digit + n % 10) ∷ [])) (filled o at (suc (length xs)) n) (at + suc (length xs))
unfolding filled
more-filled o xs at n p l =
    let z : at + length xs + 1 ≡ at + suc (length xs) = omega arith in
    rw (← z) (laid-before o _ xs at (at + length xs) (zero_digit + n % 10) (omega arith) l)

digits-filled : (k n at : ℕ) (o : List ℕ) → at + length (digits_of k n) ≤ length o → Laid o at (digits_of k n) (filled o at (length (digits_of k n)) n) (at + length (digits_of k n))
digits-filled zero n at o p = none_filled n at o p
digits-filled (suc k) n at o p = go (ltb n 10) (digits-filled k (n / 10) at) refl where
  go : (t : Bool)
      → ((m : List ℕ) → at + length (digits_of k (n / 10)) ≤ length m
      → Laid m at (digits_of k (n / 10)) (filled m at (length (digits_of k (n / 10))) (n / 10)) (at + length (digits_of k (n / 10))))
      → ltb n 10 ≡ t → Laid o at (digits_of (suc k) n) (filled o at (length (digits_of (suc k) n)) n) (at + length (digits_of (suc k) n))
  go true r e =
      let l : n < 10 = ltb-true n 10 e in
      let d = one_place (suc k) n (omega arith) l in
      rw (d, digits-one (suc k) n (omega arith) l) (one-filled o at n (omega arith))
  go false r e =
      let l : 10 ≤ n = ltb-false n 10 e in
      let s : suc k - 1 ≡ k = omega arith in
      let d : length (digits_of (suc k) n) ≡ suc (length (digits_of k (n / 10))) = rw s at (one_more (suc k) n (omega arith) l) in
      let b : digits_of (suc k) n ≡ digits_of k (n / 10) ++ ((zero_digit + n % 10) ∷ []) = rw s at (digits_more (suc k) n (omega arith) l) in
      let m : List ℕ = set o (at + length (digits_of k (n / 10))) (zero_digit + n % 10) in
      rw (d, b) (more-filled o (digits_of k (n / 10)) at n (omega arith) (r m (rw (length-set) (omega arith))))

-- the last digit but one
tens : (n : ℕ) → n % 100 / 10 % 10 ≡ n / 10 % 10
tens n =
    let a : n / 10 ≡ 10 * (n / 100) + n % 100 / 10 = omega arith in
    let b : n % 100 / 10 < 10 = omega arith in
    omega arith

module _ (o m : List ℕ) (at places n left rest : ℕ) (inv : filled m at left rest ≡ filled o at places n) where
  pub two-filled : (b d : ℕ) → 2 ≤ left → b ≡ zero_digit + rest % 100 / 10 % 10 → d ≡ zero_digit + rest % 100 % 10
      → filled (set (set m (at + (left - 2)) b) (at + (left - 2) + 1) d) at (left - 2) (rest / 100) ≡ filled o at places n
  unfolding filled
  two-filled b d p e f =
      let s : left ≡ suc (suc (left - 2)) = omega arith in
      let x : at + (left - 2) + 1 ≡ at + suc (left - 2) = omega arith in
      let y : (at + (left - 2) ≡ at + suc (left - 2)) → ⊥ = λ z. omega arith in
      let g : rest % 100 % 10 ≡ rest % 10 = omega arith in
      let h : rest / 100 ≡ rest / 10 / 10 = omega arith in
      let i : filled m at left rest ≡ filled m at (suc (suc (left - 2))) rest = ap (λ (l : ℕ). filled m at l rest) s in
      rw (e, f, g, h, tens rest, x, set_comm m (at + (left - 2)) (at + suc (left - 2)) _ _ y) (sym i ∙ inv)

  module _ (asked : places ≡ length (decimal n)) (room : at + places ≤ length o) where
    laid_filled : (l : List ℕ) → l ≡ filled o at places n → Laid o at (decimal n) l (at + places)
    unfolding decimal
    laid_filled l e = rw (e, asked) (digits-filled most_places n at o (omega arith))

    pub laid-even : left < 2 → (left ≡ 1 → ⊥) → Laid o at (decimal n) m (at + places)
    unfolding filled
    laid-even p q = let z : left ≡ 0 = omega arith in laid_filled m (rw z at inv)

    pub laid-odd : (b : ℕ) → left ≡ 1 → b ≡ zero_digit + rest % 10 → Laid o at (decimal n) (set m at b) (at + places)
    unfolding filled
    laid-odd b p e = let z : at + 0 ≡ at = omega arith in laid_filled (set m at b) (rw e (rw (p, z) at inv))

pub ruleset filling = (two-filled, laid-even, laid-odd, rules)
