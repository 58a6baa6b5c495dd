-- A number that is none of the cases from 0 on comes behind them all.
-- Assumes nothing.
use mathlib.Core.Path.{◌≡◌}
use Prim.Native.Nat.{ℕ, zero, suc, ◌≤◌}
use native.Mathlib.Omega.{arith}

-- i is none of the first n numbers, as the last arm of a match on them is told.
abbrev pub NoneOf : (n i : ℕ) → Type 0
NoneOf zero i = Unit {0}
NoneOf (suc n) i = NoneOf n i × (i ≡ n → ⊥)

pub none_of : (n i : ℕ) → NoneOf n i → n ≤ i
none_of zero i p = omega arith
none_of (suc n) i p =
    let l : n ≤ i = none_of n i p.0 in
    let q : i ≡ n → ⊥ = p.1 in
    omega arith
