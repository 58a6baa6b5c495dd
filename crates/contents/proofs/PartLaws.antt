-- Laws of a part of a file's bytes: how many it has, and what is left of it after the first.
-- Assumes nothing.
use mathlib.Core.Path.{◌≡◌}
use mathlib.Core.List.{List, ◌∷◌}
use Prim.Native.Nat.{ℕ, zero, suc, ◌+◌, ◌-◌, ◌<◌, ◌≤◌}
use native.Mathlib.Omega.{arith}
use native.Mathlib.Numerals.{add-one}
use lib.ListN.{length, drop, length-drop}
use lib.Seq.{drop-cons, length-take-le}
use Rattle.contents.specs.Bytes.{byte_at, part}

module _ (f : List ℕ) where
  pub part_length : (at n : ℕ) → at + n ≤ length f → length (part f at n) ≡ n
  unfolding part
  part_length at n p = length-take-le n (drop at f) (simp length-drop (omega arith))

  pub part-more : (at n : ℕ) → 0 < n → at + n ≤ length f → part f at n ≡ byte_at f at ∷ part f (at + 1) (n - 1)
  unfolding part
  part-more at zero p q = absurd (omega arith)
  part-more at (suc n) p q =
      let l : at < length f = omega arith in
      let s : suc n - 1 ≡ n = omega arith in
      rw (s, add-one, drop-cons f at 0 l)
