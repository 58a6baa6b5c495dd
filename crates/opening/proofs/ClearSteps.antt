-- Words that the library's `fill` made 0, in the code's own terms.
-- Assumes nothing.
use mathlib.Core.Path.{◌≡◌, refl, ap}
use mathlib.Core.List.{List, ◌∷◌, ◌++◌}
use Prim.Native.Nat.{ℕ, zero, suc, ◌≤◌}
use lib.ListN.{length, take, drop}
use lib.Seq.{length-take-le}
use Rattle.std.specs.Prelude.{replicate}
use Rattle.session.specs.Layout.{memory_size}
use Rattle.opening.specs.Opening.{zeros, cleared}

zeros-filled : (n : ℕ) → replicate n 0 ≡ zeros n
unfolding zeros
zeros-filled zero = refl
zeros-filled (suc n) = ap (λ (t : List ℕ). 0 ∷ t) (zeros-filled n)

filled : (n : ℕ) (m part : List ℕ) → n ≤ length m → part ≡ replicate (length (take n m)) 0 → part ++ drop n m ≡ zeros n ++ drop n m
filled n m part l e = rw (e, length-take-le n m l, zeros-filled n)

pub filled-cleared : (m part : List ℕ) → memory_size ≤ length m → part ≡ replicate (length (take memory_size m)) 0 → part ++ drop memory_size m ≡ cleared m
unfolding cleared
filled-cleared m part l e = filled memory_size m part l e
