-- Laws of the walk over a list of items: one step of it, and that the bound of the recursion does not matter.
-- Assumes nothing.
use mathlib.Core.Path.{◌≡◌, refl, sym, ◌∙◌}
use mathlib.Core.Bool.{false}
use mathlib.Core.List.{List, [], ◌∷◌}
use Prim.Native.Nat.{ℕ, zero, suc, ◌+◌, ◌*◌, ◌≤◌}
use native.Mathlib.Omega.{arith}
use lib.ListN.{length, take, drop, length-drop}
use lib.Seq.{length-take-le}
use borrow.Author.Tests.{eq-eqb, ne_eqb}
use Rattle.std.specs.Prelude.{Result, Ok, Err}
use Rattle.page.specs.declared.Item.{Item}
use Rattle.base.specs.Tests.{pick}
use Rattle.base.specs.Checks.{Check, fine, refused, is_fine}
use Rattle.contents.specs.declared.Fault.{Fault}
use Rattle.contents.specs.declared.ItemRule.{ItemRule}
use Rattle.contents.specs.declared.Counts.{Counts}
use Rattle.contents.specs.Limits.{item_size, most_actions}
use Rattle.items.specs.declared.Setting.{Setting}
use Rattle.items.specs.Items.{item_right, within_of, own_of, next, inside, onward, broken_at, on_from, walk_of, walked}
use Rattle.items.specs.Inner.{broken_by}
use Rattle.items.proofs.Walked.{right-item, within-left, walk-walked, walked-few}

-- ---- an action and a group

module _ (i : Item) where
  module _ (action : i.kind ≡ 0) where
    pub within-action : within_of i ≡ 0
    unfolding within_of pick
    within-action = rw (eq-eqb _ 0 action)

    pub own-action : own_of i ≡ 1
    unfolding own_of pick
    own-action = rw (eq-eqb _ 0 action)

  module _ (group : i.kind ≡ 0 → ⊥) where
    pub within_group : within_of i ≡ i.last
    unfolding within_of pick
    within_group = rw (ne_eqb _ 0 group)

    pub own-group : own_of i ≡ 0
    unfolding own_of pick
    own-group = rw (ne_eqb _ 0 group)

-- ---- two walks, one after the other

onward-same : (v w : Result ℕ Fault) (a b : ℕ → Result ℕ Fault) → v ≡ w → ((m : ℕ) → a m ≡ b m) → onward v a ≡ onward w b
unfolding onward
onward-same v (Ok n) a b e p = rw e (p n)
onward-same v (Err x) a b e p = rw e

-- ---- a wrong item stops the walk

stop-here : (v : Check ItemRule) (at : ℕ) (w : Result ℕ Fault) → is_fine v ≡ false → on_from v at w ≡ Err (broken_at at (broken_by v))
unfolding is_fine on_from broken_by
stop-here fine at w e = let z : ◌≡◌ {A = ℕ} 0 1 = cc in absurd (omega arith)
stop-here (refused r) at w e = refl

-- ---- the items within and after are no more than those left

module _ (x k : ℕ) (is : List Item) (le : length is ≤ x) where
  pub take-few : k ≤ length is → length (take k is) ≤ x
  take-few p = let e = length-take-le k is p in omega arith

  pub drop-few : length (drop k is) ≤ x
  drop-few = let e = length-drop k is in omega arith

-- ---- any bound that is enough walks the same

module _ (c : Counts) (x y : ℕ) (same : (at : ℕ) (is : List Item) (h : Setting) (n : ℕ) → length is ≤ x → length is ≤ y → walk_of x c at is h n ≡ walk_of y c at is h n) where
  bound-step : (at : ℕ) (i : Item) (is : List Item) (h : Setting) (n : ℕ) → length is ≤ x → length is ≤ y → (v : Check ItemRule) → item_right i c h (length is) n ≡ v
      → walk_of (suc x) c at (i ∷ is) h n ≡ walk_of (suc y) c at (i ∷ is) h n
  unfolding walk_of on_from
  bound-step at i is h n p q (refused r) e = rw e
  bound-step at i is h n p q fine e =
      let l = within-left (right-item i c h (length is) n e) in
      rw e
      (onward-same _ _ _ _ (same (at + item_size) (take (within_of i) is) _ _ (take-few x (within_of i) is p l) (take-few y (within_of i) is q l))
      (λ m. same _ (drop (within_of i) is) _ m (drop-few x (within_of i) is p) (drop-few y (within_of i) is q)))

bound : (c : Counts) (x y at : ℕ) (is : List Item) (h : Setting) (n : ℕ) → length is ≤ x → length is ≤ y → walk_of x c at is h n ≡ walk_of y c at is h n
unfolding walk_of
bound c zero zero at is h n p q = refl
bound c zero (suc y) at [] h n p q = refl
bound c zero (suc y) at (i ∷ is) h n p q = absurd (omega arith)
bound c (suc x) zero at [] h n p q = refl
bound c (suc x) zero at (i ∷ is) h n p q = absurd (omega arith)
bound c (suc x) (suc y) at [] h n p q = refl
bound c (suc x) (suc y) at (i ∷ is) h n p q = bound-step c x y (bound c x y) at i is h n (omega arith) (omega arith) _ refl

-- ---- one step of the walk

pub walked_end : (c : Counts) (at : ℕ) (h : Setting) (n : ℕ) → walked c at [] h n ≡ Ok n
unfolding walked walk_of
walked_end c at h n = refl

module _ (c : Counts) (at : ℕ) (i : Item) (is : List Item) (h : Setting) (n : ℕ) where
  pub walked-right : item_right i c h (length is) n ≡ fine
      → walked c at (i ∷ is) h n
      ≡ onward (walked c (at + item_size) (take (within_of i) is) (inside i h) (n + own_of i))
      (λ m. walked c (at + item_size + item_size * within_of i) (drop (within_of i) is) (next i h) m)
  unfolding walked walk_of on_from
  walked-right e =
      let l = within-left (right-item i c h (length is) n e) in
      rw e
      (onward-same _ _ _ _ (bound c (length is) (length (take (within_of i) is)) (at + item_size) (take (within_of i) is) _ _ (take-few (length is) (within_of i) is (omega arith) l) (omega arith))
      (λ m. bound c (length is) (length (drop (within_of i) is)) _ (drop (within_of i) is) _ m (drop-few (length is) (within_of i) is (omega arith)) (omega arith)))

  pub walked-wrong : is_fine (item_right i c h (length is) n) ≡ false → walked c at (i ∷ is) h n ≡ Err (broken_at at (broken_by (item_right i c h (length is) n)))
  unfolding walked walk_of
  walked-wrong e = stop-here (item_right i c h (length is) n) at _ e

-- ---- a walk that ends has met no 1,025th action

pub walked-small : (c : Counts) (at : ℕ) (is : List Item) (h : Setting) (n m : ℕ) (w : Result ℕ Fault) → n ≤ most_actions → w ≡ walked c at is h n → w ≡ Ok m → m ≤ most_actions
unfolding walked
walked-small c at is h n m w p e q = walked-few (walk-walked (length is) c at is h n m (omega arith) (sym e ∙ q)) p
