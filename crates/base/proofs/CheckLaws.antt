-- Laws of the first fault: which test decides, and what no fault says of each test.
-- Assumes nothing.
use mathlib.Core.Path.{◌≡◌, refl}
use mathlib.Core.Bool.{Bool, true, false}
use mathlib.Core.List.{List, [], ◌∷◌}
use Prim.Native.Nat.{ℕ}
use native.Mathlib.Omega.{arith}
use Rattle.base.specs.Checks.{Check, fine, refused, need, first_fault, is_fine, renamed}
use Rattle.base.specs.Tests.{every}
use borrow.Author.Tests.{le-leb, lt-leb, lt-ltb, le-ltb}
use Rattle.base.proofs.TestLaws.{told-true, told-false, between_in, between-under, between-over, tests}

module _ {X : Type 0} where
  -- ---- from the tests to the answer

  pub first-end : ◌≡◌ {A = Check X} fine (first_fault [])
  unfolding first_fault
  first-end = refl

  pub first-pass : (b : Bool) (x : X) (r : Check X) (l : List (Check X)) → b ≡ true → r ≡ first_fault l → r ≡ first_fault (need b x ∷ l)
  unfolding first_fault need
  first-pass b x r l e p = rw e p

  pub first-stop : (b : Bool) (x : X) (l : List (Check X)) → b ≡ false → refused x ≡ first_fault (need b x ∷ l)
  unfolding first_fault need
  first-stop b x l e = rw e

  -- ---- from no fault to the tests

  pub need-fine : (b : Bool) (x : X) → need b x ≡ fine → b ≡ true
  unfolding need
  need-fine true x e = refl
  need-fine false x e = let z : ◌≡◌ {A = ℕ} 0 1 = cc in absurd (omega arith)

  pub first_head : (v : Check X) (l : List (Check X)) → first_fault (v ∷ l) ≡ fine → v ≡ fine
  unfolding first_fault
  first_head fine l e = refl
  first_head (refused x) l e = e

  pub first_rest : (v : Check X) (l : List (Check X)) → first_fault (v ∷ l) ≡ fine → first_fault l ≡ fine
  unfolding first_fault
  first_rest fine l e = e
  first_rest (refused x) l e = let z : ◌≡◌ {A = ℕ} 0 1 = cc in absurd (omega arith)

  pub first_holds : (b : Bool) (x : X) (l : List (Check X)) → first_fault (need b x ∷ l) ≡ fine → b ≡ true
  first_holds b x l e = need-fine b x (first_head _ l e)

  pub fine-told : (v : Check X) → is_fine v ≡ true → v ≡ fine
  unfolding is_fine
  fine-told fine e = refl
  fine-told (refused x) e = let z : ◌≡◌ {A = ℕ} 0 1 = cc in absurd (omega arith)

  -- ---- there is no fault where every test holds

  pub fine_more : (b : Bool) (x : X) (l : List (Check X)) (bs : List Bool) → is_fine (first_fault l) ≡ every bs → is_fine (first_fault (need b x ∷ l)) ≡ every (b ∷ bs)
  unfolding is_fine first_fault need every
  fine_more true x l bs e = e
  fine_more false x l bs e = refl

pub fine_end : (X : Type 0) → is_fine (first_fault {X = X} []) ≡ every []
unfolding is_fine first_fault every
fine_end X = refl

-- ---- a check whose fault is told by another name

module _ {X Y : Type 0} (g : X → Y) where
  pub renamed-pass : (v : Check X) (r : Check Y) (l : List (Check Y)) → v ≡ fine → r ≡ first_fault l → r ≡ first_fault (renamed g v ∷ l)
  unfolding first_fault renamed
  renamed-pass v r l e p = rw e p

  pub renamed-stop : (v : Check X) (x : X) (l : List (Check Y)) → v ≡ refused x → refused (g x) ≡ first_fault (renamed g v ∷ l)
  unfolding first_fault renamed
  renamed-stop v x l e = rw e

  pub renamed-fine : (v : Check X) → renamed g v ≡ fine → v ≡ fine
  unfolding renamed
  renamed-fine fine e = refl
  renamed-fine (refused x) e = let z : ◌≡◌ {A = ℕ} 0 1 = cc in absurd (omega arith)

-- the tests of a chain of early returns
pub ruleset faults = (first-end, first-pass, first-stop, tests)

-- the same, where a call told the answer of a test
pub ruleset checks =
    (first-end, first-pass, first-stop, told-true, told-false, between_in, between-under, between-over, le-leb, lt-leb, lt-ltb, le-ltb)
