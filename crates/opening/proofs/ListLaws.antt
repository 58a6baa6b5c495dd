-- Laws of lists: lengths after a store, and parts of parts.
-- Assumes nothing.
use mathlib.Core.Path.{◌≡◌, refl, ◌∙◌}
use mathlib.Core.List.{List, [], ◌∷◌}
use Prim.Native.Nat.{ℕ, zero, suc, ◌+◌, ◌≤◌}
use native.Mathlib.Omega.{arith}
use lib.ListN.{length, set, take, drop, length-set}
use lib.Seq.{take-take}

-- a store keeps a length that was kept before
pub kept-length : (m m₀ : List ℕ) (i v : ℕ) → length m ≡ length m₀ → length (set m i v) ≡ length m₀
kept-length m m₀ i v e = length-set m i v ∙ e

-- a part that ends before the end of the beginning of a list is a part of the list
pub take-drop-take : (n a b : ℕ) (l : List ℕ) → a + n ≤ b → take n (drop a (take b l)) ≡ take n (drop a l)
take-drop-take n zero b l h = take-take n b l (omega arith)
take-drop-take n (suc a) zero l h = absurd (omega arith)
take-drop-take n (suc a) (suc b) [] h = refl
take-drop-take n (suc a) (suc b) (x ∷ l) h = take-drop-take n a b l (omega arith)
