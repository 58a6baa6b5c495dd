-- Which word a number stands for, in the form of the code's tests.
-- Assumes nothing.
use mathlib.Core.Path.{◌≡◌, refl}
use Prim.Native.Nat.{ℕ, zero, suc}
use borrow.Author.Rules.{rules}
use Rattle.rules.specs.Words.{loose, tight, synchrony_of, local, global, partial, causal, error_of}

pub loose_at : (n : ℕ) → n ≡ 0 → loose ≡ synchrony_of n
unfolding synchrony_of
loose_at n e = rw e

pub tight-at : (n : ℕ) → (n ≡ 0 → ⊥) → tight ≡ synchrony_of n
unfolding synchrony_of
tight-at zero h = absurd (h refl)
tight-at (suc n) h = refl

pub local_at : (n : ℕ) → n ≡ 0 → local ≡ error_of n
unfolding error_of
local_at n e = rw e

pub global-at : (n : ℕ) → n ≡ 1 → global ≡ error_of n
unfolding error_of
global-at n e = rw e

pub partial-at : (n : ℕ) → n ≡ 2 → partial ≡ error_of n
unfolding error_of
partial-at n e = rw e

pub causal-at : (n : ℕ) → (n ≡ 0 → ⊥) → (n ≡ 1 → ⊥) → (n ≡ 2 → ⊥) → causal ≡ error_of n
unfolding error_of
causal-at zero h k l = absurd (h refl)
causal-at (suc zero) h k l = absurd (k refl)
causal-at (suc (suc zero)) h k l = absurd (l refl)
causal-at (suc (suc (suc n))) h k l = refl

pub ruleset words = (loose_at, tight-at, local_at, global-at, partial-at, causal-at, rules)
