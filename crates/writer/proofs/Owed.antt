-- What is owed shrinks by what was laid.
-- Assumes nothing.
use mathlib.Core.Path.{◌≡◌, refl, sym, ap, ◌∙◌}
use mathlib.Core.List.{List, [], ◌++◌, append_assoc, append-nil}
use Prim.Native.Nat.{ℕ, ◌+◌, ◌≤◌}
use native.Mathlib.Omega.{arith}
use lib.ListN.{length, length-append}
use Rattle.ascii.specs.Laying.{Laid}
use Rattle.ascii.proofs.LayLaws.{laid-join, laid-nothing}

-- Of all the bytes, to be laid behind the first at of out, these are still owed, behind the first next of m.
pub record Owed (out : List ℕ) (at : ℕ) (all m : List ℕ) (next : ℕ) (rest : List ℕ) : Type 0 where
  pub done : List ℕ
  pub laid : Laid out at done m next
  pub whole : done ++ rest ≡ all
  pub room : at + length all ≤ length out

pub owed_start : (o : List ℕ) (at : ℕ) (all : List ℕ) → at + length all ≤ length o → Owed o at all o at all
owed_start o at all p = record { done = []; laid = laid-nothing o at (omega arith); whole = refl; room = p }

pub owed-done : (o : List ℕ) (at : ℕ) (all m : List ℕ) (next : ℕ) (rest : List ℕ) → Owed o at all m next rest → rest ≡ [] → Laid o at all m next
owed-done o at all m next rest w e =
    let z : w.done ≡ all = sym (append-nil w.done) ∙ ap (λ (l : List ℕ). w.done ++ l) (sym e) ∙ w.whole in
    rw (← z) w.laid

module _ (o : List ℕ) (at : ℕ) (all m : List ℕ) (next : ℕ) (xs rest : List ℕ) (w : Owed o at all m next (xs ++ rest)) where
  pub owed-room : next + length xs ≤ length m
  owed-room =
      let e : length (w.done ++ (xs ++ rest)) ≡ length all = ap length w.whole in
      omega (arith, e, length-append w.done (xs ++ rest), length-append xs rest, w.room, w.laid.stop, w.laid.size)

  pub owed-laid : (m' : List ℕ) (r : ℕ) → Laid m next xs m' r → Owed o at all m' r rest
  owed-laid m' r l =
      record {
        done = w.done ++ xs;
        laid = laid-join o m m' w.done xs at next r w.laid l;
        whole = append_assoc w.done xs rest ∙ w.whole;
        room = w.room;
      }
