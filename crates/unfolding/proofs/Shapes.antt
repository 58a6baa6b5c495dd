-- What an item becomes, by its kind: an action stays, a group keeps its body, a loop is a group of passes, a curve a group of actions; and how a table unfolds,
-- item by item, whatever bounds the recursion.
-- Assumes nothing.
use mathlib.Core.Path.{◌≡◌, refl}
use mathlib.Core.Bool.{Bool, true, false}
use mathlib.Core.List.{List, [], ◌∷◌}
use Prim.Native.Nat.{ℕ, zero, suc, ◌≤◌}
use native.Mathlib.Omega.{arith}
use lib.ListN.{length, take, drop, length-take, length-drop}
use borrow.Author.Tests.{eqb-true}
use Rattle.page.specs.declared.Item.{Item}
use Rattle.base.specs.Tests.{pick}
use Rattle.unfolding.specs.Extended.{Numbered}
use Rattle.unfolding.specs.Unfolded.{Unfolded, end, action, group, is_action, send_item, passes, sends, inside_of, becomes, within_of, unfolded_to, unfolded}

module _ (i : Numbered) (body rest : Unfolded) where
  pub becomes-action : i.item.kind ≡ 0 → becomes i body rest ≡ action i.item rest
  unfolding becomes pick
  becomes-action k = rw k

  pub becomes-group : i.item.kind ≡ 1 → becomes i body rest ≡ group i.item body rest
  unfolding becomes inside_of pick
  becomes-group k = rw k

  pub becomes-loop : i.item.kind ≡ 2 → becomes i body rest ≡ group i.item (passes i.item i.each 0 i.times body) rest
  unfolding becomes inside_of pick
  becomes-loop k = rw k

  pub becomes-curve : i.item.kind ≡ 3 → becomes i body rest ≡ group i.item (sends i.item i.each 0 i.numbers) rest
  unfolding becomes inside_of pick
  becomes-curve k = rw k

-- ---- a table, item by item: any bound that is enough unfolds the same

bound : (x y : ℕ) (is : List Numbered) → length is ≤ x → length is ≤ y → unfolded_to x is ≡ unfolded_to y is
unfolding unfolded_to
bound zero zero is p q = refl
bound zero (suc y) [] p q = refl
bound zero (suc y) (i ∷ is) p q = absurd (omega arith)
bound (suc x) zero [] p q = refl
bound (suc x) zero (i ∷ is) p q = absurd (omega arith)
bound (suc x) (suc y) [] p q = refl
bound (suc x) (suc y) (i ∷ is) p q =
    let w = within_of i in
    let a : unfolded_to x (take w is) ≡ unfolded_to y (take w is) = bound x y (take w is) (omega (arith, length-take w is)) (omega (arith, length-take w is)) in
    let b : unfolded_to x (drop w is) ≡ unfolded_to y (drop w is) = bound x y (drop w is) (omega (arith, length-drop w is)) (omega (arith, length-drop w is)) in
    rw (a, b)

pub unfolded-none : unfolded [] ≡ end
unfolding unfolded unfolded_to
unfolded-none = refl

-- An item with those within it, then those after it.
pub unfolded-more : (i : Numbered) (is : List Numbered) → unfolded (i ∷ is) ≡ becomes i (unfolded (take (within_of i) is)) (unfolded (drop (within_of i) is))
unfolding unfolded unfolded_to
unfolded-more i is =
    let w = within_of i in
    let t = length-take w is in
    let d = length-drop w is in
    let a : unfolded_to (length is) (take w is) ≡ unfolded_to (length (take w is)) (take w is) = bound (length is) (length (take w is)) (take w is) (omega arith) (omega arith) in
    let b : unfolded_to (length is) (drop w is) ≡ unfolded_to (length (drop w is)) (drop w is) = bound (length is) (length (drop w is)) (drop w is) (omega arith) (omega arith) in
    rw (a, b)

-- ---- every action of an unfolded score has an action's kind

pub data Kinds : Unfolded → Type 0 where
  at_end : Kinds end
  at_action : {i : Item} {rest : Unfolded} → i.kind ≡ 0 → Kinds rest → Kinds (action i rest)
  at_group : {i : Item} {body rest : Unfolded} → Kinds body → Kinds rest → Kinds (group i body rest)

passes-kinds : (i : Item) (period d n : ℕ) {body : Unfolded} → Kinds body → Kinds (passes i period d n body)
unfolding passes
passes-kinds i period d zero k = at_end
passes-kinds i period d (suc n) k = at_group k (passes-kinds i period period n k)

sends-kinds : (i : Item) (step d : ℕ) (ns : List ℕ) → Kinds (sends i step d ns)
unfolding sends send_item
sends-kinds i step d [] = at_end
sends-kinds i step d (n ∷ ns) = at_action refl (sends-kinds i step step ns)

pub pick-kinds : (b : Bool) {u v : Unfolded} → Kinds u → Kinds v → Kinds (pick b u v)
unfolding pick
pick-kinds true k l = k
pick-kinds false k l = l

inside-kinds : (i : Numbered) {body : Unfolded} → Kinds body → Kinds (inside_of i body)
unfolding inside_of
inside-kinds i k = pick-kinds _ k (pick-kinds _ (passes-kinds i.item i.each 0 i.times k) (sends-kinds i.item i.each 0 i.numbers))

becomes-kinds : (i : Numbered) {body rest : Unfolded} → Kinds body → Kinds rest → Kinds (becomes i body rest)
unfolding becomes pick
becomes-kinds i {body} {rest} k l = go (is_action i) refl
  where
    go : (b : Bool) → is_action i ≡ b → Kinds (pick b (action i.item rest) (group i.item (inside_of i body) rest))
    go true e = at_action (eqb-true i.item.kind 0 e) l
    go false e = at_group (inside-kinds i k) l

unfolded_to-kinds : (n : ℕ) (is : List Numbered) → Kinds (unfolded_to n is)
unfolding unfolded_to
unfolded_to-kinds zero is = at_end
unfolded_to-kinds (suc n) [] = at_end
unfolded_to-kinds (suc n) (i ∷ is) = becomes-kinds i (unfolded_to-kinds n _) (unfolded_to-kinds n _)

-- Whatever is unfolded, what it has as actions are actions.
pub unfolded-kinds : (is : List Numbered) → Kinds (unfolded is)
unfolding unfolded
unfolded-kinds is = unfolded_to-kinds _ is
