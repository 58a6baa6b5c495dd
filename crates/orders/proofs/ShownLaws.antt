-- A name as it is shown stays on one line: none of its bytes is below the space. But for an empty one it is as long as the name.
-- Assumes nothing.
use mathlib.Core.Path.{◌≡◌, refl}
use mathlib.Core.Bool.{Bool, true, false}
use mathlib.Core.List.{List, [], ◌∷◌, map}
use Prim.Native.Nat.{ℕ, zero, suc, ◌<◌, ◌≤◌}
use native.Mathlib.Omega.{arith}
use lib.Dec.{eqb, ltb}
use lib.ListN.{length, get_or, length-map}
use borrow.Author.Tests.{ltb-false}
use Rattle.base.specs.Tests.{pick}
use Rattle.ascii.specs.Words.{space}
use Rattle.orders.specs.Said.{unshown, delete, shown_byte, shown}

pub shown-length : (b : ℕ) (bs : List ℕ) → length (shown (b ∷ bs)) ≡ length (b ∷ bs)
unfolding shown
shown-length b bs = length-map (b ∷ bs) shown_byte

byte-shown : (b : ℕ) → space ≤ shown_byte b
unfolding shown_byte pick
byte-shown b = go (ltb b space) (eqb b delete) refl where
  go : (t u : Bool) → ltb b space ≡ t → space ≤ pick t unshown (pick u unshown b)
  go true u e = omega arith
  go false true e = omega arith
  go false false e = ltb-false b space e

bytes-shown : (l : List ℕ) (i : ℕ) → i < length l → space ≤ get_or (map shown_byte l) i 0
bytes-shown [] i p = absurd (omega arith)
bytes-shown (b ∷ bs) zero p = byte-shown b
bytes-shown (b ∷ bs) (suc i) p = bytes-shown bs i (omega arith)

pub shown-on-one-line : (name : List ℕ) (i : ℕ) → i < length (shown name) → space ≤ get_or (shown name) i 0
unfolding shown
shown-on-one-line [] zero p = omega arith
shown-on-one-line [] (suc zero) p = omega arith
shown-on-one-line [] (suc (suc i)) p = absurd (omega arith)
shown-on-one-line (b ∷ bs) i p = let l : length (map shown_byte (b ∷ bs)) ≡ length (b ∷ bs) = length-map (b ∷ bs) shown_byte in bytes-shown (b ∷ bs) i (omega arith)
