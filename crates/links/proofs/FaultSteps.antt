-- What a call to the system comes to, in the code's own terms: the machine's tests on a signed number's bits decide the cases of the definitions.
-- Assumes nothing.
use mathlib.Core.Path.{◌≡◌, refl, ap}
use Prim.Native.Nat.{zero, suc}
use native.Mathlib.Omega.{arith}
use lib.IntN.{ℤ, pos, negsuc, nat_abs}
use mir.Syntax.{w32}
use mir.Val.{SFits, of_z}
use borrow.Author.Rules.{rules}
use Rattle.streams.proofs.CallSteps.{bits-say}
use Rattle.links.specs.Faults.{reason_of}

-- ---- the number that is told

pub reason-none : (e : ℤ) → SFits w32 e → of_z w32 e ≡ 0 → pos 5 ≡ reason_of e
unfolding reason_of
reason-none e f p = ap reason_of (bits-say w32 e 0 f p)

pub reason-given : (e : ℤ) → (of_z w32 e ≡ 0 → ⊥) → e ≡ reason_of e
unfolding reason_of
reason-given (pos zero) p = absurd (p refl)
reason-given (pos (suc n)) p = refl
reason-given (negsuc n) p = refl

-- a failure is never told as 0
pub reason-some : (e : ℤ) → reason_of e ≡ pos 0 → ⊥
unfolding reason_of
reason-some (pos zero) p = omega (arith, ap nat_abs p)
reason-some (pos (suc n)) p = omega (arith, ap nat_abs p)
reason-some (negsuc n) p = omega (arith, ap nat_abs p)

pub ruleset reasoning = (reason-none, reason-given, rules)
