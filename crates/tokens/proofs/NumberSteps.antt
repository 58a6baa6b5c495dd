-- Each step of reading a number's digits, in the code's own terms. The sum of n digits stays below 10 ^ n, so that ten of them never wrap.
-- Assumes nothing.
use Rattle.std.specs.Prelude.{Result, Ok, Err}
use mathlib.Core.Path.{◌≡◌, refl}
use mathlib.Core.Bool.{Bool, true, false, not}
use mathlib.Core.List.{List, [], ◌∷◌}
use Prim.Native.Nat.{ℕ, suc, ◌+◌, ◌-◌, ◌*◌, ◌^◌, ◌<◌, ◌≤◌}
use native.Mathlib.Omega.{arith}
use lib.ListN.{length, drop, get_or, drop_of_length-le}
use lib.Dec.{leb, ltb}
use borrow.Author.Tests.{le-leb, lt-leb, lt-ltb, le-ltb, ltb-true}
use borrow.Author.Rules.{rules}
use Rattle.base.specs.Tests.{pick, every, between}
use Rattle.base.proofs.TestLaws.{told-true, told-false, between-over}
use Rattle.ascii.specs.Words.{zero_digit}
use Rattle.ascii.specs.Numbers.{most_digits, is_digit, value_from, value}
use Rattle.ascii.proofs.WordSteps.{drop-next}
use Rattle.ascii.proofs.NumberSteps.{digit_low, digit-high, sum_step, ten-fits, sum_fits}
use Rattle.tokens.specs.declared.Token.{Token}
use Rattle.tokens.specs.Bytes.{Stops, nothing, here}
use Rattle.tokens.specs.Tokens.{got, stop, leading, behind, is_number, number}
use Rattle.tokens.specs.Asked.{stopped, ended_as, as_read, met_at, value_in, Reads}
use Rattle.tokens.proofs.TokenLaws.{none-leads, none-behind}

-- ---- a digit

pub digit-fits : (b : ℕ) (r : Bool) → r ≡ is_digit b → not r ≡ false → b - zero_digit < 2 ^ 64
digit-fits b r e p = omega (arith, digit-high b r e p)

-- ---- the digits read

pub ended-none : (at n sum limit : ℕ) → n < 1 → Err at ≡ ended_as at n sum limit
unfolding ended_as every pick
ended-none at n sum limit p = rw (lt-leb 1 n p)

pub ended-big : (at n sum limit : ℕ) → 1 ≤ n → limit ≤ sum → Err at ≡ ended_as at n sum limit
unfolding ended_as every pick
ended-big at n sum limit p q = rw (le-leb 1 n p, le-ltb sum limit q)

pub ended-read : (at n sum limit : ℕ) → 1 ≤ n → sum < limit → Ok (record { value = sum; next = at + n }) ≡ ended_as at n sum limit
unfolding ended_as every pick
ended-read at n sum limit p q = rw (le-leb 1 n p, lt-ltb sum limit q)

pub ruleset ending = (ended-none, ended-big, ended-read, rules)

-- All from at up to i are digits, which make up the sum so far.
pub record Digits (t : List ℕ) (at i sum : ℕ) : Type 0 where
  pub from : at ≤ i
  pub within : i ≤ length t
  pub few : i - at ≤ most_digits
  pub small : sum < 10 ^ (i - at)
  pub value : value_from sum (leading is_digit (drop i t)) ≡ value (leading is_digit (drop at t))
  pub count : i - at + length (leading is_digit (drop i t)) ≡ length (leading is_digit (drop at t))
  pub left : behind is_digit (drop i t) ≡ behind is_digit (drop at t)

pub digits-start : (t : List ℕ) (at : ℕ) → at ≤ length t → Digits t at at 0
unfolding value
digits-start t at p =
    let z : at - at ≡ 0 = omega arith in
    record { from = omega arith; within = p; few = omega arith; small = rw z (omega arith); value = refl; count = rw z (omega arith); left = refl }

-- ---- all digits read: what the number is

ended-says : (t : List ℕ) (at n sum limit : ℕ) → n ≤ most_digits
    → as_read t (ended_as at n sum limit) ≡ pick (every (between 1 most_digits n ∷ ltb sum limit ∷ [])) (got sum (drop (at + n) t)) (stop (drop at t))
unfolding as_read ended_as pick every between
ended-says t at n sum limit p = rw (le-leb n most_digits p) (go (leb 1 n) (ltb sum limit)) where
  go : (a b : Bool) → as_read t (pick (every (a ∷ b ∷ [])) (Ok (record { value = sum; next = at + n })) (stopped at))
      ≡ pick (every (every (a ∷ true ∷ []) ∷ b ∷ [])) (got sum (drop (at + n) t)) (stop (drop at t))
  go true true = refl
  go true false = refl
  go false b = refl

ended-within : (t : List ℕ) (at n sum limit : ℕ) → at + n ≤ length t → met_at (ended_as at n sum limit) ≤ length t
unfolding met_at ended_as pick
ended-within t at n sum limit p = go (every (leb 1 n ∷ ltb sum limit ∷ [])) where
  go : (a : Bool) → met_at (pick a (Ok (record { value = sum; next = at + n })) (stopped at)) ≤ length t
  go true = p
  go false = omega arith

ended-small : (at n sum limit : ℕ) → 1 ≤ limit → value_in (ended_as at n sum limit) < limit
unfolding value_in ended_as pick every
ended-small at n sum limit p = go (leb 1 n) (ltb sum limit) refl where
  go : (a b : Bool) → ltb sum limit ≡ b → value_in (pick (every (a ∷ b ∷ [])) (Ok (record { value = sum; next = at + n })) (stopped at)) < limit
  go true true e = ltb-true sum limit e
  go true false e = omega arith
  go false b e = omega arith

module _ (t : List ℕ) (at i sum : ℕ) (inv : Digits t at i sum) where
  number-closed : (limit : ℕ) → 1 ≤ limit → Stops is_digit (drop i t) → Reads t limit (number limit (drop at t)) (ended_as at (i - at) sum limit)
  unfolding number is_number value_from
  number-closed limit p s =
      let a : at + (i - at) ≡ i = omega (arith, inv.from) in
      let ended : as_read t (ended_as at (i - at) sum limit) ≡ pick (every (between 1 most_digits (i - at) ∷ ltb sum limit ∷ [])) (got sum (drop i t)) (stop (drop at t)) =
      rw a at (ended-says t at (i - at) sum limit inv.few) in
      let v : sum ≡ value (leading is_digit (drop at t)) = rw (none-leads s) at inv.value in
      let c : i - at + 0 ≡ length (leading is_digit (drop at t)) = rw (none-leads s) at inv.count in
      let c' : length (leading is_digit (drop at t)) ≡ i - at = omega arith in
      let l : drop i t ≡ behind is_digit (drop at t) = rw (none-behind s) at inv.left in
      record {
        says = rw (← l, c', ← v) ended;
        within = ended-within t at (i - at) sum limit (omega (arith, inv.from, inv.within));
        small = ended-small at (i - at) sum limit p;
      }

  pub number-over : (limit : ℕ) (v : Result Token ℕ) → 1 ≤ limit → length t ≤ i → v ≡ ended_as at (length t - at) sum limit → Reads t limit (number limit (drop at t)) v
  number-over limit v p q h =
      let l : length t ≡ i = omega (arith, inv.within) in
      let e : v ≡ ended_as at (i - at) sum limit = rw l at h in
      let s : Stops is_digit (drop i t) = rw (drop_of_length-le t q) nothing in
      rw e (number-closed limit p s)

  module _ (more : i < length t) (r : Bool) (told : r ≡ is_digit (get_or t i 0)) where
    pub number-ends : (limit : ℕ) (v : Result Token ℕ) → 1 ≤ limit → not r ≡ true → v ≡ ended_as at (i - at) sum limit → Reads t limit (number limit (drop at t)) v
    number-ends limit v p q e =
        let b : is_digit (get_or t i 0) ≡ false = told-false r _ told q in
        let s : Stops is_digit (drop i t) = rw (drop-next t i more) (here b) in
        rw e (number-closed limit p s)

    module _ (digit : not r ≡ false) where
      pub number-long : (limit : ℕ) (v : Result Token ℕ) → 1 ≤ limit → most_digits ≤ i - at → v ≡ stopped at → Reads t limit (number limit (drop at t)) v
      unfolding number is_number as_read met_at value_in leading pick every
      number-long limit v p q e =
          let b : is_digit (get_or t i 0) ≡ true = told-true r _ told digit in
          let c : i - at + suc (length (leading is_digit (drop (i + 1) t))) ≡ length (leading is_digit (drop at t)) =
          rw (drop-next t i more, b) at inv.count in
          let o : between 1 most_digits (length (leading is_digit (drop at t))) ≡ false = between-over 1 most_digits _ (omega arith) in
          rw e (record { says = rw o; within = omega (arith, inv.from, inv.within); small = omega arith })

      pub digit-sum : (d : ℕ) → d ≡ get_or t i 0 - zero_digit → i - at < most_digits → 10 * sum + d < 2 ^ 64
      digit-sum d e p = sum_fits (i - at) most_digits sum (get_or t i 0) d inv.small p (omega arith) (digit-high _ r told digit) e

      pub digits_step : (d : ℕ) → d ≡ get_or t i 0 - zero_digit → i - at < most_digits → Digits t at (i + 1) (10 * sum + d)
      unfolding leading behind value_from pick
      digits_step d e p =
          let b : is_digit (get_or t i 0) ≡ true = told-true r _ told digit in
          let a : i + 1 - at ≡ i - at + 1 = omega (arith, inv.from) in
          let c : i - at + suc (length (leading is_digit (drop (i + 1) t))) ≡ length (leading is_digit (drop at t)) =
          rw (drop-next t i more, b) at inv.count in
          let v : value_from (10 * sum + d) (leading is_digit (drop (i + 1) t)) ≡ value (leading is_digit (drop at t)) =
          rw e (rw (drop-next t i more, b) at inv.value) in
          let l : behind is_digit (drop (i + 1) t) ≡ behind is_digit (drop at t) = rw (drop-next t i more, b) at inv.left in
          record {
            from = omega (arith, inv.from);
            within = omega arith;
            few = rw a (omega arith);
            small = rw a (sum_step (i - at) sum (get_or t i 0) d inv.small (digit-high _ r told digit) e);
            value = v;
            count = rw a (omega arith);
            left = l;
          }

pub ruleset numbers = (digit_low, digit-high, digit-fits, digits-start, number-over, number-ends, number-long, ten-fits, digit-sum, digits_step, rules)
