-- The first fault in the code's own form: which test decides the verdict, and what a verdict says of its check.
-- Assumes nothing.
use mathlib.Core.Path.{◌≡◌, refl}
use mathlib.Core.Bool.{Bool, true, false}
use mathlib.Core.List.{List, [], ◌∷◌}
use Prim.Native.Nat.{ℕ}
use native.Mathlib.Omega.{arith}
use Rattle.std.specs.Prelude.{Result, Ok, Err}
use Rattle.base.specs.Checks.{Check, fine, refused, need, first_fault}
use Rattle.base.proofs.TestLaws.{tests}
use Rattle.contents.specs.declared.Fault.{Fault}
use Rattle.contents.specs.Replies.{verdict_of}

-- ---- what a verdict says of its check

pub verdict-fine : (w : Check Fault) (v : Result (Unit {0}) Fault) → v ≡ verdict_of w → v ≡ Ok tt → w ≡ fine
unfolding verdict_of
verdict-fine fine v e p = refl
verdict-fine (refused x) v e p = let z : ◌≡◌ {A = ℕ} 0 1 = cc in absurd (omega arith)

pub verdict-refused : (w : Check Fault) (v : Result (Unit {0}) Fault) (x : Fault) → v ≡ verdict_of w → v ≡ Err x → w ≡ refused x
unfolding verdict_of
verdict-refused fine v x e p = let z : ◌≡◌ {A = ℕ} 0 1 = cc in absurd (omega arith)
verdict-refused (refused y) v x e p = cc

-- ---- from the tests to the verdict

pub verdict-end : Ok tt ≡ verdict_of (first_fault [])
unfolding verdict_of first_fault
verdict-end = refl

module _ (b : Bool) (x : Fault) where
  pub verdict-pass : (r : Result (Unit {0}) Fault) (l : List (Check Fault)) → b ≡ true → r ≡ verdict_of (first_fault l) → r ≡ verdict_of (first_fault (need b x ∷ l))
  unfolding first_fault need
  verdict-pass r l e q = rw e q

  pub verdict-stop : (l : List (Check Fault)) → b ≡ false → Err x ≡ verdict_of (first_fault (need b x ∷ l))
  unfolding verdict_of first_fault need
  verdict-stop l e = rw e

  -- one more of a row of checks, the others after it
  pub check-next : (w : Check Fault) → b ≡ true → first_fault (need b x ∷ w ∷ []) ≡ w
  unfolding first_fault need
  check-next fine e = rw e
  check-next (refused y) e = rw e

-- ---- what the parts of a check told

pub told-last : (w : Check Fault) (r : Result (Unit {0}) Fault) → r ≡ verdict_of w → r ≡ verdict_of (first_fault (w ∷ []))
unfolding first_fault
told-last fine r p = p
told-last (refused x) r p = p

module _ (v : Result (Unit {0}) Fault) (w : Check Fault) (l : List (Check Fault)) (told : v ≡ verdict_of w) where
  pub told-fine : (r : Result (Unit {0}) Fault) → v ≡ Ok tt → r ≡ verdict_of (first_fault l) → r ≡ verdict_of (first_fault (w ∷ l))
  unfolding first_fault
  told-fine r p q = rw (verdict-fine w v told p) q

  pub told-fault : (r : Result (Unit {0}) Fault) (x : Fault) → v ≡ Err x → r ≡ Err x → r ≡ verdict_of (first_fault (w ∷ l))
  unfolding verdict_of first_fault
  told-fault r x p q = rw (verdict-refused w v x told p) q

-- the tests of a chain of early returns
pub ruleset faults = (verdict-end, verdict-pass, verdict-stop, tests)
