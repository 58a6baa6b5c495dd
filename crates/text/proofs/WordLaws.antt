-- Which word is written for a number, in the form of the code's tests.
-- Assumes nothing.
use mathlib.Core.Path.{◌≡◌, refl}
use Prim.Native.Nat.{ℕ, zero, suc}
use Rattle.text.specs.Words.{loose_word, tight_word, local_word, global_word, partial_word, causal_word}
use Rattle.text.specs.Written.{synchrony_word, error_word}

pub loose-is : (n : ℕ) → n ≡ 0 → synchrony_word n ≡ loose_word
unfolding synchrony_word
loose-is n e = rw e

pub tight-is : (n : ℕ) → (n ≡ 0 → ⊥) → synchrony_word n ≡ tight_word
unfolding synchrony_word
tight-is zero e = absurd (e refl)
tight-is (suc n) e = refl

pub local-is : (n : ℕ) → n ≡ 0 → error_word n ≡ local_word
unfolding error_word
local-is n e = rw e

pub global-is : (n : ℕ) → n ≡ 1 → error_word n ≡ global_word
unfolding error_word
global-is n e = rw e

pub partial-is : (n : ℕ) → n ≡ 2 → error_word n ≡ partial_word
unfolding error_word
partial-is n e = rw e

pub causal-is : (n : ℕ) → (n ≡ 0 → ⊥) → (n ≡ 1 → ⊥) → (n ≡ 2 → ⊥) → error_word n ≡ causal_word
unfolding error_word
causal-is zero a b c = absurd (a refl)
causal-is (suc zero) a b c = absurd (b refl)
causal-is (suc (suc zero)) a b c = absurd (c refl)
causal-is (suc (suc (suc n))) a b c = refl
