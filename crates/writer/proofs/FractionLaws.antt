-- The least denominator by Euclid's steps: the pair changes, and what serves both its numbers stays.
-- No step needs more than that a number is a multiple of the next one and a rest. Assumes nothing.
use mathlib.Core.Path.{◌≡◌, sym, ap, ◌∙◌}
use mathlib.Core.List.{List, [], ◌∷◌, ◌++◌, append-nil}
use Prim.Native.Nat.{ℕ, zero, suc, ◌+◌, ◌*◌, ◌/◌, ◌%◌, ◌<◌, ◌≤◌}
use native.Mathlib.Nat.{zero-mul, mul_assoc, mul_comm, add-mul, mul-pos, mul-mod_left, mul-mod_right, mod-lt, mod_self, zero-mod, div-add-mod', le_of_mul-le-mul_right, mul-le-mul}
use native.Mathlib.Omega.{arith}
use lib.ListN.{length, length-append}
use borrow.Author.Tests.{eq-eqb, ne_eqb}
use borrow.Author.Rules.{rules}
use Rattle.base.specs.Tests.{pick}
use Rattle.ascii.specs.Decimals.{decimal}
use Rattle.ascii.specs.Laying.{Laid}
use Rattle.ascii.proofs.LayLaws.{laid-join}
use Rattle.contents.specs.Limits.{longest}
use Rattle.tokens.specs.Bytes.{slash}
use Rattle.tokens.specs.Beats.{grains_of_a_beat}
use Rattle.text.specs.Beats.{denominator, numerator, over, beats_text}
use Rattle.text.proofs.BeatsLaws.{denominator-some, denominator-most, beats-lowest, beats-value}
use Rattle.writer.specs.Fractions.{Pair, Common}

-- ---- multiples

whole-times : (q x k : ℕ) → x % k ≡ 0 → q * x % k ≡ 0
whole-times q x k e =
    let z : x ≡ x / k * k = omega (arith, div-add-mod' x k) in
    let y : q * x ≡ q * (x / k) * k = ap (λ (n : ℕ). q * n) z ∙ sym (mul_assoc q (x / k) k) in
    rw y (mul-mod_left (q * (x / k)) k)

whole_sum : (x y k : ℕ) → x % k ≡ 0 → y % k ≡ 0 → (x + y) % k ≡ 0
whole_sum x y k p q =
    let a : x ≡ x / k * k = omega (arith, div-add-mod' x k) in
    let b : y ≡ y / k * k = omega (arith, div-add-mod' y k) in
    let z : x + y ≡ (x / k + y / k) * k = rw (add-mul (x / k) (y / k) k) (ap (λ (n : ℕ). n + y) a ∙ ap (λ (n : ℕ). x / k * k + n) b) in
    rw z (mul-mod_left (x / k + y / k) k)

-- a is so many of b and a rest, times d
parted : (a b d : ℕ) → a * d ≡ a / b * (b * d) + a % b * d
parted a b d =
    let z : a ≡ a / b * b + a % b = sym (div-add-mod' a b) in
    ap (λ (n : ℕ). n * d) z ∙ add-mul (a / b * b) (a % b) d ∙ ap (λ (n : ℕ). n + a % b * d) (mul_assoc (a / b) b d)

-- ---- Euclid's steps

pub pair-start : (g : ℕ) → Pair g grains_of_a_beat g
pair-start g =
    record {
      serves = λ d p q. q;
      served = λ d p. (mul-mod_right grains_of_a_beat d, p);
      divides = λ k p q. p;
      some = omega arith;
    }

module _ (g a b : ℕ) (pair : Pair g a b) (more : 0 < b) where
  pub pair_step : Pair g b (a % b)
  pair_step =
      record {
        serves = λ d p q. pair.serves d (rw (parted a b d) (whole_sum _ _ _ (whole-times (a / b) (b * d) grains_of_a_beat p) q)) p;
        served = λ d p.
            let both = pair.served d p in
            let t = whole-times (a / b) (b * d) grains_of_a_beat both.1 in
            let s = parted a b d in
            (both.1, omega (arith, both.0));
        divides = λ k p q.
            let z : a ≡ a / b * b + a % b = sym (div-add-mod' a b) in
            let w : (a / b * b + a % b) % k ≡ 0 = whole_sum _ _ k (whole-times (a / b) b k p) q in
            pair.divides k (rw (← z) at w) p;
        some = omega arith;
      }

  pub rest-falls : a % b < b
  rest-falls = mod-lt a more

pub pair-common : (g a b : ℕ) → Pair g a b → b ≤ 0 → Common g a
pair-common g a b pair p = let z : b ≡ 0 = omega arith in rw z at pair

pub pair-some : (g a b : ℕ) → Pair g a b → 1 ≤ a
pair-some g a b pair = pair.some

pub ruleset euclid = (pair-start, pair_step, rest-falls, pair-common, pair-some, rules)

-- ---- the least denominator

module _ (g a : ℕ) (common : Common g a) where
  parts : grains_of_a_beat ≡ grains_of_a_beat / a * a
  parts = omega (arith, div-add-mod' grains_of_a_beat a, common.divides a (mod_self a) (zero-mod a))

  part-some : 1 ≤ grains_of_a_beat / a
  part-some = go (grains_of_a_beat / a) parts where
    go : (q : ℕ) → grains_of_a_beat ≡ q * a → 1 ≤ q
    go zero e = let z : 0 * a ≡ 0 = zero-mul a in omega arith
    go (suc q) e = omega arith

  part-serves : g * (grains_of_a_beat / a) % grains_of_a_beat ≡ 0
  part-serves =
      let q = grains_of_a_beat / a in
      let e : a * q ≡ grains_of_a_beat = mul_comm a q ∙ sym parts in
      let z : 0 * q ≡ 0 = zero-mul q in
      common.serves q (rw e (mod_self grains_of_a_beat)) (rw z (zero-mod grains_of_a_beat))

  denominator-serves : a * denominator g % grains_of_a_beat ≡ 0
  denominator-serves =
      let w : g * denominator g % grains_of_a_beat ≡ 0 = rw (← (beats-value g)) (mul-mod_left (numerator g) grains_of_a_beat) in
      (common.served (denominator g) w).0

  no_less : grains_of_a_beat / a ≤ denominator g
  no_less =
      let q = grains_of_a_beat / a in
      let d = denominator g in
      let p : 0 < a * d = mul-pos common.some (denominator-some g) in
      let m : grains_of_a_beat ≤ a * d = omega (arith, denominator-serves) in
      let c : a * d ≡ d * a = mul_comm a d in
      let l : q * a ≤ d * a = omega (arith, parts) in
      le_of_mul-le-mul_right l common.some

  pub denominator-by : grains_of_a_beat / a ≡ denominator g
  denominator-by =
      let l = beats-lowest g (grains_of_a_beat / a) part-some part-serves in
      omega (arith, no_less)

  pub denominator-told : (grains_of_a_beat / a ≡ denominator g) × (grains_of_a_beat / a ≤ grains_of_a_beat)
  denominator-told = (denominator-by, omega (arith, denominator-by, denominator-most g))

pub common-some : (g a : ℕ) → Common g a → 1 ≤ a
common-some g a common = common.some

pub ruleset denominators = (denominator-told, common-some, rules)

-- ---- the beats' text

pub product-fits : (g d : ℕ) → g ≤ longest → d ≤ grains_of_a_beat → g * d ≤ longest * grains_of_a_beat
product-fits g d p q = mul-le-mul p q

module _ (g d : ℕ) (e : d ≡ denominator g) where
  numerator-is : g * d / grains_of_a_beat ≡ numerator g
  unfolding numerator
  numerator-is = rw e

  beats-whole : d ≡ 1 → beats_text g ≡ decimal (g * d / grains_of_a_beat)
  unfolding beats_text over pick
  beats-whole p = rw (← e, eq-eqb d 1 p, numerator-is, append-nil (decimal (numerator g)))

  beats-over : (d ≡ 1 → ⊥) → beats_text g ≡ decimal (g * d / grains_of_a_beat) ++ (slash ∷ decimal d)
  unfolding beats_text over pick
  beats-over p = rw (← e, ne_eqb d 1 p, numerator-is)

  module _ (o : List ℕ) (at : ℕ) where
    pub whole_room : d ≡ 1 → at + length (beats_text g) ≤ length o → at + length (decimal (g * d / grains_of_a_beat)) ≤ length o
    whole_room p l = rw (beats-whole p) at l

    pub whole-laid : (n : List ℕ) (r : ℕ) → d ≡ 1 → Laid o at (decimal (g * d / grains_of_a_beat)) n r → Laid o at (beats_text g) n r
    whole-laid n r p l = rw (beats-whole p) l

    module _ (p : d ≡ 1 → ⊥) where
      pub upper-room : at + length (beats_text g) ≤ length o → at + length (decimal (g * d / grains_of_a_beat)) ≤ length o
      upper-room l = omega (arith, ap length (beats-over p), length-append (decimal (g * d / grains_of_a_beat)) (slash ∷ decimal d))

      module _ (m : List ℕ) (a : ℕ) (upper : Laid o at (decimal (g * d / grains_of_a_beat)) m a) where
        pub slash-room : at + length (beats_text g) ≤ length o → a + 1 ≤ length m
        slash-room l = omega (arith, ap length (beats-over p), length-append (decimal (g * d / grains_of_a_beat)) (slash ∷ decimal d), upper.stop, upper.size)

        module _ (k : List ℕ) (b : ℕ) (line : Laid m a (slash ∷ []) k b) where
          pub lower-room : at + length (beats_text g) ≤ length o → b + length (decimal d) ≤ length k
          lower-room l =
              omega (arith, ap length (beats-over p), length-append (decimal (g * d / grains_of_a_beat)) (slash ∷ decimal d), upper.stop, upper.size, line.stop, line.size)

          pub over-laid : (n : List ℕ) (r : ℕ) → Laid k b (decimal d) n r → Laid o at (beats_text g) n r
          over-laid n r lower = rw (beats-over p) (laid-join o m n _ (slash ∷ decimal d) at a r upper (laid-join m k n (slash ∷ []) (decimal d) a b r line lower))

pub ruleset fractions = (whole_room, whole-laid, upper-room, slash-room, lower-room, over-laid, rules)
