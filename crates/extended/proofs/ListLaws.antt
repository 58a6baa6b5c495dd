-- Laws of the points and of the items in a file: how many there are, one more, and those before and behind some of them.
-- By recursion on the count. Assumes nothing.
use mathlib.Core.Path.{◌≡◌, refl, ap}
use mathlib.Core.List.{List, [], ◌∷◌}
use Prim.Native.Nat.{ℕ, zero, suc, ◌+◌, ◌-◌, ◌*◌, ◌<◌, ◌≤◌}
use native.Mathlib.Omega.{arith}
use lib.ListN.{length, take, drop}
use Rattle.extended.specs.Layout.{folded_size, point_size}
use Rattle.extended.specs.Folds.{folded_at, folded_from}
use Rattle.extended.specs.Points.{point_at, points_from}

module _ (f : List ℕ) where
  -- ---- points

  pub points-length : (at n : ℕ) → length (points_from f at n) ≡ n
  unfolding points_from
  points-length at zero = refl
  points-length at (suc n) = ap suc (points-length (at + point_size) n)

  pub points-more : (at n : ℕ) → 0 < n → points_from f at n ≡ point_at f at ∷ points_from f (at + point_size) (n - 1)
  unfolding points_from
  points-more at zero p = absurd (omega arith)
  points-more at (suc n) p = let s : suc n - 1 ≡ n = omega arith in rw s

  pub points-take : (at n k : ℕ) → k ≤ n → take k (points_from f at n) ≡ points_from f at k
  unfolding points_from
  points-take at n zero p = refl
  points-take at zero (suc k) p = absurd (omega arith)
  points-take at (suc n) (suc k) p = rw (points-take (at + point_size) n k (omega arith))

  pub points-drop : (at n k : ℕ) → k ≤ n → drop k (points_from f at n) ≡ points_from f (at + point_size * k) (n - k)
  unfolding points_from
  points-drop at n zero p = let z : at + point_size * 0 ≡ at = omega arith in let s : n - 0 ≡ n = omega arith in rw (z, s)
  points-drop at zero (suc k) p = absurd (omega arith)
  points-drop at (suc n) (suc k) p =
      let z : at + point_size * suc k ≡ at + point_size + point_size * k = omega arith in
      let s : suc n - suc k ≡ n - k = omega arith in
      rw (z, s) (points-drop (at + point_size) n k (omega arith))

  -- ---- items

  pub folded-length : (at n : ℕ) → length (folded_from f at n) ≡ n
  unfolding folded_from
  folded-length at zero = refl
  folded-length at (suc n) = ap suc (folded-length (at + folded_size) n)

  pub folded_more : (at n : ℕ) → 0 < n → folded_from f at n ≡ folded_at f at ∷ folded_from f (at + folded_size) (n - 1)
  unfolding folded_from
  folded_more at zero p = absurd (omega arith)
  folded_more at (suc n) p = let s : suc n - 1 ≡ n = omega arith in rw s

  pub folded-none : (at n : ℕ) → n ≤ 0 → folded_from f at n ≡ []
  unfolding folded_from
  folded-none at zero p = refl
  folded-none at (suc n) p = absurd (omega arith)

  pub folded-take : (at n k : ℕ) → k ≤ n → take k (folded_from f at n) ≡ folded_from f at k
  unfolding folded_from
  folded-take at n zero p = refl
  folded-take at zero (suc k) p = absurd (omega arith)
  folded-take at (suc n) (suc k) p = rw (folded-take (at + folded_size) n k (omega arith))

  pub folded-drop : (at n k : ℕ) → k ≤ n → drop k (folded_from f at n) ≡ folded_from f (at + folded_size * k) (n - k)
  unfolding folded_from
  folded-drop at n zero p = let z : at + folded_size * 0 ≡ at = omega arith in let s : n - 0 ≡ n = omega arith in rw (z, s)
  folded-drop at zero (suc k) p = absurd (omega arith)
  folded-drop at (suc n) (suc k) p =
      let z : at + folded_size * suc k ≡ at + folded_size + folded_size * k = omega arith in
      let s : suc n - suc k ≡ n - k = omega arith in
      rw (z, s) (folded-drop (at + folded_size) n k (omega arith))
