-- One item unfolded: that the bound of the recursion does not matter, and what it adds to each size.
-- Assumes nothing.
use mathlib.Core.Path.{◌≡◌, refl}
use mathlib.Core.Bool.{Bool, true, false}
use mathlib.Core.List.{List, [], ◌∷◌}
use Prim.Native.Nat.{ℕ, zero, suc, ◌+◌, ◌-◌, ◌*◌, ◌<◌, ◌≤◌, min, max}
use native.Mathlib.Nat.{suc-mul, zero-mul}
use native.Mathlib.Omega.{arith}
use lib.Dec.{eqb}
use lib.ListN.{length, take, drop, length-take, length-drop}
use borrow.Author.Tests.{eqb-true, eqb-false}
use Rattle.base.specs.Tests.{pick}
use Rattle.shapes.specs.declared.Shape.{Shape}
use Rattle.shapes.specs.Shapes.{shape_at, shapes_from, is_action, is_group, is_loop, Tree, end, passes, values, inside_of, becomes, within_of, unfolded_to, unfolded, items, actions, depth}
use Rattle.shapes.specs.Sizes.{own_of}

-- ---- any bound that is enough unfolds the same

bound : (x y : ℕ) (is : List Shape) → length is ≤ x → length is ≤ y → unfolded_to x is ≡ unfolded_to y is
unfolding unfolded_to
bound zero zero is p q = refl
bound zero (suc y) [] p q = refl
bound zero (suc y) (i ∷ is) p q = absurd (omega arith)
bound (suc x) zero [] p q = refl
bound (suc x) zero (i ∷ is) p q = absurd (omega arith)
bound (suc x) (suc y) [] p q = refl
bound (suc x) (suc y) (i ∷ is) p q =
    let t = length-take (within_of i) is in
    let d = length-drop (within_of i) is in
    let a : unfolded_to x (take (within_of i) is) ≡ unfolded_to y (take (within_of i) is) = bound x y (take (within_of i) is) (omega arith) (omega arith) in
    let b : unfolded_to x (drop (within_of i) is) ≡ unfolded_to y (drop (within_of i) is) = bound x y (drop (within_of i) is) (omega arith) (omega arith) in
    rw (a, b)

pub unfolded-none : unfolded [] ≡ end
unfolding unfolded unfolded_to
unfolded-none = refl

pub unfolded-more : (i : Shape) (is : List Shape) → unfolded (i ∷ is) ≡ becomes i (unfolded (take (within_of i) is)) (unfolded (drop (within_of i) is))
unfolding unfolded unfolded_to
unfolded-more i is =
    let t = length-take (within_of i) is in
    let d = length-drop (within_of i) is in
    let a : unfolded_to (length is) (take (within_of i) is) ≡ unfolded_to (length (take (within_of i) is)) (take (within_of i) is) = bound (length is) (length (take (within_of i) is)) (take (within_of i) is) (omega arith) (omega arith) in
    let b : unfolded_to (length is) (drop (within_of i) is) ≡ unfolded_to (length (drop (within_of i) is)) (drop (within_of i) is) = bound (length is) (length (drop (within_of i) is)) (drop (within_of i) is) (omega arith) (omega arith) in
    rw (a, b)

-- ---- the sizes of passes and values

pub items-passes : (n : ℕ) (s : Tree) → items (passes n s) ≡ n + n * items s
unfolding items passes
items-passes zero s = let z = zero-mul (items s) in omega arith
items-passes (suc n) s = let h = items-passes n s in let m = suc-mul n (items s) in omega arith

pub actions-passes : (n : ℕ) (s : Tree) → actions (passes n s) ≡ n * actions s
unfolding actions passes
actions-passes zero s = let z = zero-mul (actions s) in omega arith
actions-passes (suc n) s = let h = actions-passes n s in let m = suc-mul n (actions s) in omega arith

pub depth-passes : (n : ℕ) (s : Tree) → 0 < n → depth (passes n s) ≡ 1 + depth s
unfolding depth passes
depth-passes zero s p = absurd (omega arith)
depth-passes (suc zero) s p = omega arith
depth-passes (suc (suc n)) s p = let h = depth-passes (suc n) s (omega arith) in omega arith

pub items-values : (n : ℕ) → items (values n) ≡ n
unfolding items values
items-values zero = refl
items-values (suc n) = let h = items-values n in omega arith

pub actions-values : (n : ℕ) → actions (values n) ≡ n
unfolding actions values
actions-values zero = refl
actions-values (suc n) = let h = actions-values n in omega arith

pub depth-values : (n : ℕ) → 0 < n → depth (values n) ≡ 1
unfolding depth values
depth-values zero p = absurd (omega arith)
depth-values (suc zero) p = refl
depth-values (suc (suc n)) p = let h = depth-values (suc n) (omega arith) in omega arith

-- ---- what one item adds: its body counts as far as it is opened

none-opened : (is : List Shape) → depth (unfolded (take 0 is)) ≡ 0
unfolding unfolded unfolded_to depth
none-opened is = refl

pub record Adds (i : Shape) (is : List Shape) (rest : Tree) : Type 0 where
  pub more : items (becomes i (unfolded (take (within_of i) is)) rest) ≡ (own_of i).each + (own_of i).inner * items (unfolded (take (own_of i).opened is)) + items rest
  pub sent : actions (becomes i (unfolded (take (within_of i) is)) rest) ≡ (own_of i).sent + (own_of i).inner * actions (unfolded (take (own_of i).opened is)) + actions rest
  pub deep : depth (becomes i (unfolded (take (within_of i) is)) rest) ≡ max ((own_of i).deep + depth (unfolded (take (own_of i).opened is))) (depth rest)

module _ (i : Shape) (is : List Shape) (rest : Tree) where
  adds-action : is_action i ≡ true → Adds i is rest
  unfolding becomes inside_of within_of own_of pick items actions depth
  adds-action a =
      let z = none-opened is in
      record { more = rw a (omega arith); sent = rw a (omega arith); deep = rw a (omega arith) }

  adds-group : is_action i ≡ false → is_group i ≡ true → Adds i is rest
  unfolding becomes inside_of within_of own_of pick items actions depth
  adds-group a g = record { more = rw (a, g) (omega arith); sent = rw (a, g) (omega arith); deep = rw (a, g) (omega arith) }

  adds-nothing : (l : Bool) → is_action i ≡ false → is_group i ≡ false → eqb i.times 0 ≡ true → is_loop i ≡ l → Adds i is rest
  unfolding becomes inside_of within_of own_of pick passes values items actions depth
  adds-nothing true a g t l =
      let z = none-opened is in
      let e : i.times ≡ 0 = eqb-true _ _ t in
      record { more = rw (a, g, t, l, e) (omega arith); sent = rw (a, g, t, l, e) (omega arith); deep = rw (a, g, t, l, e) (omega arith) }
  adds-nothing false a g t l =
      let z = none-opened is in
      let e : i.times ≡ 0 = eqb-true _ _ t in
      record { more = rw (a, g, t, l, e) (omega arith); sent = rw (a, g, t, l, e) (omega arith); deep = rw (a, g, t, l, e) (omega arith) }

  module _ (a : is_action i ≡ false) (g : is_group i ≡ false) (t : eqb i.times 0 ≡ false) where
    some : 0 < i.times
    some = let n = eqb-false i.times 0 t in omega arith

    adds-loop : is_loop i ≡ true → Adds i is rest
    unfolding becomes inside_of within_of own_of pick items actions depth
    adds-loop l =
        let x = items-passes i.times (unfolded (take i.last is)) in
        let y = actions-passes i.times (unfolded (take i.last is)) in
        let z = depth-passes i.times (unfolded (take i.last is)) some in
        record { more = rw (a, g, t, l) (omega arith); sent = rw (a, g, t, l) (omega arith); deep = rw (a, g, t, l) (omega arith) }

    adds-curve : is_loop i ≡ false → Adds i is rest
    unfolding becomes inside_of within_of own_of pick items actions depth
    adds-curve l =
        let w = none-opened is in
        let x = items-values i.times in
        let y = actions-values i.times in
        let z = depth-values i.times some in
        record { more = rw (a, g, t, l) (omega arith); sent = rw (a, g, t, l) (omega arith); deep = rw (a, g, t, l) (omega arith) }

  pub adds : Adds i is rest
  adds = go (is_action i) (is_group i) (eqb i.times 0) (is_loop i) refl refl refl refl where
    go : (a g t l : Bool) → is_action i ≡ a → is_group i ≡ g → eqb i.times 0 ≡ t → is_loop i ≡ l → Adds i is rest
    go true g t l p q r s = adds-action p
    go false true t l p q r s = adds-group p q
    go false false true l p q r s = adds-nothing l p q r s
    go false false false true p q r s = adds-loop p q r s
    go false false false false p q r s = adds-curve p q r s

pub own-within : (i : Shape) → (own_of i).within ≡ within_of i
unfolding own_of pick
own-within i = go (is_action i) (is_group i) (eqb i.times 0) (is_loop i) refl refl refl refl where
  go : (a g t l : Bool) → is_action i ≡ a → is_group i ≡ g → eqb i.times 0 ≡ t → is_loop i ≡ l → (own_of i).within ≡ within_of i
  go true g t l p q r s = rw p
  go false true t l p q r s = rw (p, q)
  go false false true l p q r s = rw (p, q, r)
  go false false false true p q r s = rw (p, q, r, s)
  go false false false false p q r s = rw (p, q, r, s)

-- ---- the items of a table, part by part

pub items-one : (ws : List ℕ) (k count : ℕ) → 0 < count → shapes_from ws k count ≡ shape_at ws k ∷ shapes_from ws (k + 1) (count - 1)
unfolding shapes_from
items-one ws k zero p = absurd (omega arith)
items-one ws k (suc c) p = let s : suc c - 1 ≡ c = omega arith in rw s

pub items-none : (ws : List ℕ) (k count : ℕ) → count ≤ 0 → shapes_from ws k count ≡ []
unfolding shapes_from
items-none ws k zero p = refl
items-none ws k (suc c) p = absurd (omega arith)

pub items-take : (ws : List ℕ) (k count n : ℕ) → take n (shapes_from ws k count) ≡ shapes_from ws k (min n count)
unfolding shapes_from
items-take ws k zero zero = refl
items-take ws k zero (suc n) = let s : min (suc n) 0 ≡ 0 = omega arith in rw s
items-take ws k (suc c) zero = let s : min 0 (suc c) ≡ 0 = omega arith in rw s
items-take ws k (suc c) (suc n) =
    let s : min (suc n) (suc c) ≡ suc (min n c) = omega arith in
    rw (s, ← items-take ws (k + 1) c n)

pub items-drop : (ws : List ℕ) (k count n : ℕ) → drop n (shapes_from ws k count) ≡ shapes_from ws (k + min n count) (count - min n count)
unfolding shapes_from
items-drop ws k zero zero = refl
items-drop ws k zero (suc n) = let s : 0 - min (suc n) 0 ≡ 0 = omega arith in rw s
items-drop ws k (suc c) zero =
    let s : k + min 0 (suc c) ≡ k = omega arith in
    let t : suc c - min 0 (suc c) ≡ suc c = omega arith in
    rw (s, t)
items-drop ws k (suc c) (suc n) =
    let s : k + min (suc n) (suc c) ≡ k + 1 + min n c = omega arith in
    let t : suc c - min (suc n) (suc c) ≡ c - min n c = omega arith in
    rw (s, t) (items-drop ws (k + 1) c n)
