-- A value's digits: which the code lays out, and how many they are at most.
-- Assumes nothing.
use mathlib.Core.Path.{◌≡◌, ap, ◌∙◌}
use mathlib.Core.List.{List, [], ◌∷◌}
use Prim.Native.Nat.{ℕ, suc, ◌+◌, ◌-◌, ◌<◌, ◌≤◌}
use native.Mathlib.Omega.{arith}
use borrow.Author.Rules.{rules}
use Rattle.ascii.specs.Decimals.{decimal}
use Rattle.ascii.specs.Laying.{Laid}
use Rattle.ascii.proofs.LayLaws.{laid-join}
use Rattle.ascii.proofs.DecimalLaws.{decimal-short}
use Rattle.values.specs.Integers.{whole_range, half_range}
use Rattle.values.specs.Digits.{minus, digits}
use Rattle.values.specs.Inner.{value_of, most_digits}
use Rattle.values.proofs.Differences.{sub-ge, sub-lt}

module _ (v : ℕ) (small : v < whole_range) where
  pub digits-at-or-above : half_range ≤ v → digits (value_of v) ≡ decimal (v - half_range)
  unfolding value_of digits
  digits-at-or-above p = ap digits (sub-ge v half_range p)

  pub digits-below : v < half_range → digits (value_of v) ≡ minus ∷ decimal (half_range - v)
  unfolding value_of digits
  digits-below p =
      let s : suc (half_range - suc v) ≡ half_range - v = omega arith in
      ap digits (sub-lt v half_range p) ∙ ap (λ (n : ℕ). minus ∷ decimal n) s

  pub lay-above : (o m : List ℕ) (at r : ℕ) → half_range ≤ v → Laid o at (decimal (v - half_range)) m r → Laid o at (digits (value_of v)) m r
  lay-above o m at r p l = rw (digits-at-or-above p) l

  pub above-short : (o m : List ℕ) (at r : ℕ) → half_range ≤ v → Laid o at (decimal (v - half_range)) m r → r ≤ at + most_digits
  above-short o m at r p l = let s = l.stop in let t = decimal-short 10 (v - half_range) (omega arith) (omega arith) in omega arith

  pub lay-below : (o m n : List ℕ) (at s r : ℕ) → v < half_range → Laid o at (minus ∷ []) m s → Laid m s (decimal (half_range - v)) n r → Laid o at (digits (value_of v)) n r
  lay-below o m n at s r p k l = rw (digits-below p) (laid-join o m n _ _ at s r k l)

  pub below-short : (o m n : List ℕ) (at s r : ℕ) → v < half_range → Laid o at (minus ∷ []) m s → Laid m s (decimal (half_range - v)) n r → r ≤ at + most_digits
  below-short o m n at s r p k l =
      let a : s ≡ at + 1 = k.stop in
      let b = l.stop in
      let t = decimal-short 10 (half_range - v) (omega arith) (omega arith) in
      omega arith

pub ruleset value-laid = (lay-above, above-short, lay-below, below-short, rules)
