-- Part bits of two sets with no part in common, added up, are the bits of both: no place carries.
-- Assumes nothing.
use mathlib.Core.Path.{◌≡◌, refl, fun_ext}
use Prim.Native.Nat.{ℕ, zero, suc, ◌+◌, ◌/◌, ◌%◌, ◌≤◌}
use mathlib.Core.Bool.{Bool, true, false}
use native.Mathlib.Omega.{arith}
use lib.Dec.{eqb}
use borrow.Author.Tests.{eqb-true, eqb-false, eq-eqb}
use Rattle.base.specs.Tests.{pick}
use Rattle.session.specs.Parts.{halvings, sounds}
use Rattle.demands.specs.Demands.{either}

abbrev Apart : (A B : ℕ) → Type 0
Apart A B = (p : ℕ) → sounds A p ≡ true → sounds B p ≡ false

first-apart : (A B : ℕ) → Apart A B → A % 2 + B % 2 ≤ 1
unfolding sounds halvings
first-apart A B d = go (eqb (A % 2) 1) refl
  where
    go : (t : Bool) → eqb (A % 2) 1 ≡ t → A % 2 + B % 2 ≤ 1
    go true e = let n : B % 2 ≡ 1 → ⊥ = eqb-false (B % 2) 1 (d 0 e) in omega arith
    go false e = let n : A % 2 ≡ 1 → ⊥ = eqb-false (A % 2) 1 e in omega arith

rest-apart : (A B : ℕ) → Apart A B → Apart (A / 2) (B / 2)
unfolding sounds halvings
rest-apart A B d p e = d (suc p) e

sounds-first : (A B : ℕ) → A % 2 + B % 2 ≤ 1 → sounds (A + B) 0 ≡ either (sounds A) (sounds B) 0
unfolding sounds halvings either pick
sounds-first A B h = go (eqb (A % 2) 1) refl
  where
    go : (t : Bool) → eqb (A % 2) 1 ≡ t → eqb ((A + B) % 2) 1 ≡ pick t true (eqb (B % 2) 1)
    go true e = let a : A % 2 ≡ 1 = eqb-true _ _ e in eq-eqb ((A + B) % 2) 1 (omega arith)
    go false e =
        let a : A % 2 ≡ 1 → ⊥ = eqb-false _ _ e in
        let b : (A + B) % 2 ≡ B % 2 = omega arith in
        rw b

sounds-either : (p A B : ℕ) → Apart A B → sounds (A + B) p ≡ either (sounds A) (sounds B) p
unfolding sounds halvings either
sounds-either zero A B d = sounds-first A B (first-apart A B d)
sounds-either (suc p) A B d =
    let e : (A + B) / 2 ≡ A / 2 + B / 2 = omega (arith, first-apart A B d) in
    rw e (sounds-either p (A / 2) (B / 2) (rest-apart A B d))

pub bits-of-both : (A B : ℕ) → ((p : ℕ) → sounds A p ≡ true → sounds B p ≡ false) → sounds (A + B) ≡ either (sounds A) (sounds B)
bits-of-both A B d = fun_ext (λ p. sounds-either p A B d)
