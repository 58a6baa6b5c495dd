-- The numbered items of a table, part by part.
-- Assumes nothing.
use mathlib.Core.Path.{◌≡◌, refl}
use mathlib.Core.List.{List, [], ◌∷◌}
use Prim.Native.Nat.{ℕ, zero, suc, ◌+◌, ◌-◌, ◌<◌, ◌≤◌, min}
use native.Mathlib.Omega.{arith}
use lib.ListN.{take, drop}
use Rattle.building.specs.Rows.{numbered_at, numbered_in}

module _ (f : List ℕ) (start : ℕ) (table numbers : List ℕ) where
  pub numbered-one : (k count : ℕ) → 0 < count → numbered_in f start table numbers k count ≡ numbered_at f start table numbers k ∷ numbered_in f start table numbers (k + 1) (count - 1)
  unfolding numbered_in
  numbered-one k zero p = absurd (omega arith)
  numbered-one k (suc c) p = let s : suc c - 1 ≡ c = omega arith in rw s

  pub numbered-none : (k count : ℕ) → count ≤ 0 → numbered_in f start table numbers k count ≡ []
  unfolding numbered_in
  numbered-none k zero p = refl
  numbered-none k (suc c) p = absurd (omega arith)

  pub numbered-take : (k count n : ℕ) → take n (numbered_in f start table numbers k count) ≡ numbered_in f start table numbers k (min n count)
  unfolding numbered_in
  numbered-take k zero zero = refl
  numbered-take k zero (suc n) = let s : min (suc n) 0 ≡ 0 = omega arith in rw s
  numbered-take k (suc c) zero = let s : min 0 (suc c) ≡ 0 = omega arith in rw s
  numbered-take k (suc c) (suc n) =
      let s : min (suc n) (suc c) ≡ suc (min n c) = omega arith in
      rw (s, ← numbered-take (k + 1) c n)

  pub numbered-drop : (k count n : ℕ) → drop n (numbered_in f start table numbers k count) ≡ numbered_in f start table numbers (k + min n count) (count - min n count)
  unfolding numbered_in
  numbered-drop k zero zero = refl
  numbered-drop k zero (suc n) = let s : 0 - min (suc n) 0 ≡ 0 = omega arith in rw s
  numbered-drop k (suc c) zero =
      let s : k + min 0 (suc c) ≡ k = omega arith in
      let t : suc c - min 0 (suc c) ≡ suc c = omega arith in
      rw (s, t)
  numbered-drop k (suc c) (suc n) =
      let s : k + min (suc n) (suc c) ≡ k + 1 + min n c = omega arith in
      let t : suc c - min (suc n) (suc c) ≡ c - min n c = omega arith in
      rw (s, t) (numbered-drop (k + 1) c n)
