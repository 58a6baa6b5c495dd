-- What an answer says of the check that it was told of.
-- Assumes nothing.
use mathlib.Core.Path.{◌≡◌, refl}
use Prim.Native.Nat.{ℕ}
use native.Mathlib.Omega.{arith}
use Rattle.std.specs.Prelude.{Result, Ok, Err}
use Rattle.base.specs.Checks.{Check, fine, refused}
use Rattle.folding.specs.Answers.{folding_of}

pub answers-wrong : (v : Check ℕ) (place : ℕ) → v ≡ refused place → Err place ≡ folding_of v
unfolding folding_of
answers-wrong v place e = rw e

pub answers-right : (v : Check ℕ) → v ≡ fine → Ok tt ≡ folding_of v
unfolding folding_of
answers-right v e = rw e

pub told-right : (r : Result (Unit {0}) ℕ) (v : Check ℕ) → r ≡ folding_of v → r ≡ Ok tt → v ≡ fine
unfolding folding_of
told-right r fine e h = refl
told-right r (refused place) e h = let z : ◌≡◌ {A = ℕ} 0 1 = cc in absurd (omega arith)

pub told-wrong : (r : Result (Unit {0}) ℕ) (v : Check ℕ) (place : ℕ) → r ≡ folding_of v → r ≡ Err place → v ≡ refused place
unfolding folding_of
told-wrong r fine place e h = let z : ◌≡◌ {A = ℕ} 0 1 = cc in absurd (omega arith)
told-wrong r (refused p) place e h = cc
