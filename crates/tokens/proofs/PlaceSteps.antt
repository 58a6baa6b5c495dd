-- Each byte passed, in the code's own terms. The invariant: the bytes left lead from here to where all of them lead.
-- Assumes nothing.
use mathlib.Core.Path.{◌≡◌, refl}
use mathlib.Core.List.{List}
use Prim.Native.Nat.{ℕ, ◌+◌, ◌<◌, ◌≤◌}
use native.Mathlib.Omega.{arith}
use lib.ListN.{length, drop, get_or, drop_of_length-le}
use borrow.Author.Tests.{eq-eqb, ne_eqb}
use borrow.Author.Rules.{rules}
use Rattle.base.specs.Tests.{pick}
use Rattle.ascii.specs.Words.{newline}
use Rattle.ascii.proofs.WordSteps.{drop-next}
use Rattle.tokens.specs.Places.{place_from, place_behind}

pub record Placing (bs : List ℕ) (line column i : ℕ) : Type 0 where
  pub rest : place_from line column (drop i bs) ≡ place_behind bs
  pub within : i ≤ length bs
  pub lines : line ≤ i + 1
  pub columns : column ≤ i + 1

pub place-start : (bs : List ℕ) → Placing bs 1 1 0
unfolding place_behind
place-start bs = record { rest = refl; within = omega arith; lines = omega arith; columns = omega arith }

module _ (bs : List ℕ) (line column i : ℕ) (inv : Placing bs line column i) where
  pub place-done : length bs ≤ i → record { line = line; column = column } ≡ place_behind bs
  unfolding place_from
  place-done p = rw (drop_of_length-le bs p) at inv.rest

  module _ (more : i < length bs) where
    pub place-newline : get_or bs i 0 ≡ newline → Placing bs (line + 1) 1 (i + 1)
    unfolding place_from pick
    place-newline e =
        let r : place_from (line + 1) 1 (drop (i + 1) bs) ≡ place_behind bs = rw (drop-next bs i more, eq-eqb (get_or bs i 0) newline e) at inv.rest in
        record { rest = r; within = omega arith; lines = omega (arith, inv.lines); columns = omega arith }

    pub place_byte : (get_or bs i 0 ≡ newline → ⊥) → Placing bs line (column + 1) (i + 1)
    unfolding place_from pick
    place_byte e =
        let r : place_from line (column + 1) (drop (i + 1) bs) ≡ place_behind bs = rw (drop-next bs i more, ne_eqb (get_or bs i 0) newline e) at inv.rest in
        record { rest = r; within = omega arith; lines = omega (arith, inv.lines); columns = omega (arith, inv.columns) }

pub ruleset placing = (place-start, place-done, place-newline, place_byte, rules)
