-- Laws of cleared words: 0 below 8,192, and what was there past it.
-- Assumes nothing.
use mathlib.Core.Path.{◌≡◌, refl, ap, ◌∙◌}
use mathlib.Core.List.{List}
use Prim.Native.Nat.{ℕ, zero, suc, ◌<◌, ◌≤◌}
use native.Mathlib.Omega.{arith}
use lib.ListN.{length, get_or, drop, length-append, length-drop, get_or-append}
use lib.Seq.{drop_at}
use Rattle.session.specs.Layout.{memory_size}
use Rattle.opening.specs.Opening.{zeros, cleared}

pub zeros-length : (n : ℕ) → length (zeros n) ≡ n
unfolding zeros
zeros-length zero = refl
zeros-length (suc n) = ap suc (zeros-length n)

pub zeros-at : (n j : ℕ) → get_or (zeros n) j 0 ≡ 0
unfolding zeros
zeros-at zero j = refl
zeros-at (suc n) zero = refl
zeros-at (suc n) (suc j) = zeros-at n j

pub cleared_at : (m : List ℕ) (j : ℕ) → j < memory_size → get_or (cleared m) j 0 ≡ 0
unfolding cleared
cleared_at m j l =
    let size : length (zeros memory_size) ≡ memory_size = zeros-length memory_size in
    get_or-append (zeros memory_size) (drop memory_size m) 0 j (omega arith) ∙ zeros-at memory_size j

pub cleared-past : (m : List ℕ) → drop memory_size (cleared m) ≡ drop memory_size m
unfolding cleared
cleared-past m = drop_at (zeros memory_size) (drop memory_size m) memory_size (zeros-length memory_size)

pub cleared-length : (m : List ℕ) → memory_size ≤ length m → length (cleared m) ≡ length m
unfolding cleared
cleared-length m l =
    let size : length (zeros memory_size) ≡ memory_size = zeros-length memory_size in
    simp (length-append, length-drop) (omega arith)
