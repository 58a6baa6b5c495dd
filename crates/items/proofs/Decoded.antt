-- Laws of the decoded items: how many there are, which, and what is left after some of them.
-- By recursion on the count. Assumes nothing.
use mathlib.Core.Path.{◌≡◌, refl, ap}
use mathlib.Core.List.{List, [], ◌∷◌}
use Prim.Native.Nat.{ℕ, zero, suc, ◌+◌, ◌-◌, ◌*◌, ◌<◌, ◌≤◌}
use native.Mathlib.Omega.{arith}
use lib.ListN.{length, get_or, take, drop}
use Rattle.page.specs.declared.Item.{Item}
use Rattle.contents.specs.Limits.{item_size}
use Rattle.items.specs.Items.{item_at, items_from}

module _ (f : List ℕ) where
  pub items-length : (at n : ℕ) → length (items_from f at n) ≡ n
  unfolding items_from
  items-length at zero = refl
  items-length at (suc n) = ap suc (items-length (at + item_size) n)

  pub items-none : (at n : ℕ) → n ≤ 0 → items_from f at n ≡ []
  unfolding items_from
  items-none at zero p = refl
  items-none at (suc n) p = absurd (omega arith)

  pub items_more : (at n : ℕ) → 0 < n → items_from f at n ≡ item_at f at ∷ items_from f (at + item_size) (n - 1)
  unfolding items_from
  items_more at zero p = absurd (omega arith)
  items_more at (suc n) p = let s : suc n - 1 ≡ n = omega arith in rw s

  pub items-at : (at n k : ℕ) (d : Item) → k < n → get_or (items_from f at n) k d ≡ item_at f (at + item_size * k)
  unfolding items_from
  items-at at zero k d p = absurd (omega arith)
  items-at at (suc n) zero d p = let z : at + item_size * 0 ≡ at = omega arith in rw z
  items-at at (suc n) (suc k) d p =
      let z : at + item_size * suc k ≡ at + item_size + item_size * k = omega arith in
      rw z (items-at (at + item_size) n k d (omega arith))

  -- the items of a group, and those after it
  pub items-take : (at n k : ℕ) → k ≤ n → take k (items_from f at n) ≡ items_from f at k
  unfolding items_from
  items-take at n zero p = refl
  items-take at zero (suc k) p = absurd (omega arith)
  items-take at (suc n) (suc k) p = rw (items-take (at + item_size) n k (omega arith))

  pub items-drop : (at n k : ℕ) → k ≤ n → drop k (items_from f at n) ≡ items_from f (at + item_size * k) (n - k)
  unfolding items_from
  items-drop at n zero p = let z : at + item_size * 0 ≡ at = omega arith in let s : n - 0 ≡ n = omega arith in rw (z, s)
  items-drop at zero (suc k) p = absurd (omega arith)
  items-drop at (suc n) (suc k) p =
      let z : at + item_size * suc k ≡ at + item_size + item_size * k = omega arith in
      let s : suc n - suc k ≡ n - k = omega arith in
      rw (z, s) (items-drop (at + item_size) n k (omega arith))
