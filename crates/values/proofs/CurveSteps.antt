-- What the code of a value asks, step by step: that products fit, and which value comes out.
-- Assumes nothing.
use mathlib.Core.Path.{◌≡◌, sym, ap, ◌∙◌}
use Prim.Native.Nat.{ℕ, ◌+◌, ◌-◌, ◌*◌, ◌/◌, ◌<◌, ◌≤◌}
use native.Mathlib.Nat.{mul-le-mul}
use native.Mathlib.Omega.{arith}
use lib.IntN.{pos}
use mir.Syntax.{w64}
use mir.Val.{Fits}
use borrow.Author.Tests.{lt-ltb, le-ltb}
use borrow.Author.Rules.{rules}
use Rattle.base.specs.Tests.{pick}
use Rattle.values.specs.Integers.{whole_range, half_range, from_bits}
use Rattle.values.specs.Curves.{curve_value}
use Rattle.values.specs.Inner.{value_of, Within}
use Rattle.values.proofs.Differences.{sub-ge, sub_same}
use Rattle.values.proofs.CurveLaws.{rise-most, fall-most, curve-rises, curve-falls}

-- ---- a value's 32 bits

pub bits-low : (b : ℕ) → b < half_range → value_of (b + half_range) ≡ from_bits b
unfolding value_of from_bits pick
bits-low b p =
    let s : b + half_range - half_range ≡ b = omega arith in
    rw (lt-ltb b half_range p) (sub-ge (b + half_range) half_range (omega arith) ∙ ap pos s)

pub bits-high : (b : ℕ) → half_range ≤ b → value_of (b - half_range) ≡ from_bits b
unfolding value_of from_bits pick
bits-high b p = rw (le-ltb b half_range p) (sub_same (b - half_range) half_range b whole_range (omega arith))

pub ruleset raising = (bits-low, bits-high, rules)

-- ---- the products fit

-- the most that a product and what rounds it up come to
product-most : (x y d : ℕ) → x < d → d < whole_range → y < whole_range → x * y + (d - 1) < 18446744073709551616
product-most x y d p q r =
    let a : x * y ≤ (d - 1) * 4294967295 = mul-le-mul {n₁ = x} {m₁ = y} {n₂ = d - 1} {m₂ = 4294967295} (omega arith) (omega arith) in
    omega arith

module _ (v w step d j : ℕ) (asked : Within v w step d j) where
  pub place-fits : Fits w64 (j * step)
  place-fits =
      let p : j * step < d = asked.place in
      let q : d < whole_range = asked.span in
      record { fits = omega arith }

  span-some : 0 < d
  span-some = let p : j * step < d = asked.place in omega arith

  place_in : j * step ≤ d
  place_in = let p : j * step < d = asked.place in omega arith

  module _ (l : v ≤ w) where
    pub rise-fits : Fits w64 (j * step * (w - v))
    rise-fits =
        let b : w < whole_range = asked.second in
        let m = product-most (j * step) (w - v) d asked.place asked.span (omega arith) in
        record { fits = omega arith }

    pub rise-in : v + j * step * (w - v) / d < whole_range
    rise-in =
        let b : w < whole_range = asked.second in
        let m = rise-most v w d (j * step) span-some place_in in
        omega arith

    pub rise-sum-fits : Fits w64 (v + j * step * (w - v) / d)
    rise-sum-fits = let i = rise-in in record { fits = omega arith }

    pub rise-value : value_of (v + j * step * (w - v) / d) ≡ curve_value (value_of v) (value_of w) step d j
    unfolding value_of
    rise-value = sym (curve-rises v w half_range step d j span-some l)

  module _ (l : w < v) where
    fall-bound : j * step * (v - w) + (d - 1) < 18446744073709551616
    fall-bound =
        let a : v < whole_range = asked.first in
        product-most (j * step) (v - w) d asked.place asked.span (omega arith)

    pub fall-fits : Fits w64 (j * step * (v - w))
    fall-fits = let b = fall-bound in record { fits = omega arith }

    pub fall-sum-fits : Fits w64 (j * step * (v - w) + (d - 1))
    fall-sum-fits = let b = fall-bound in record { fits = omega arith }

    pub fall-left : (j * step * (v - w) + (d - 1)) / d ≤ v
    fall-left = let m = fall-most v w d (j * step) span-some place_in in omega arith

    pub fall-value : value_of (v - (j * step * (v - w) + (d - 1)) / d) ≡ curve_value (value_of v) (value_of w) step d j
    unfolding value_of
    fall-value = sym (curve-falls v w half_range step d j span-some place_in l)

pub ruleset curving = (place-fits, rise-fits, rise-sum-fits, rise-in, rise-value, fall-fits, fall-sum-fits, fall-left, fall-value, rules)
