-- The shape of what numbered items unfold to is what their shapes unfold to, so it has the same sizes: both definitions go by the same kinds.
-- Assumes nothing.
use mathlib.Core.Path.{◌≡◌, refl, sym, ap, ◌∙◌}
use mathlib.Core.Bool.{Bool, true, false}
use mathlib.Core.List.{List, [], ◌∷◌}
use Prim.Native.Nat.{ℕ, zero, suc}
use native.Mathlib.Omega.{arith}
use lib.ListN.{length, take, drop}
use borrow.Author.Tests.{eqb-true}
use Rattle.base.specs.Tests.{pick}
use Rattle.page.specs.declared.Item.{Item}
use Rattle.shapes.specs.declared.Shape.{Shape}
use Rattle.shapes.specs.Shapes as tree
use Rattle.shapes.specs.Shapes.{Tree, passes as tree_passes, values, inside_of as tree_inside, becomes as tree_becomes, within_of as tree_within, unfolded_to as tree_to, unfolded as tree_unfolded, items as tree_items, actions as tree_actions, depth as tree_depth}
use Rattle.unfolding.specs.Extended.{Numbered}
use Rattle.unfolding.specs.Unfolded.{Unfolded, end, action, group, is_action, is_group, is_loop, passes, sends, inside_of, becomes, within_of, unfolded_to, unfolded, items, actions, depth}
use Rattle.building.specs.Rows.{times_in, shape_of, shapes_of}

-- ---- the shape alone

unfoldable pub shaped : Unfolded → Tree
shaped end = tree.end
shaped (action i r) = tree.action (shaped r)
shaped (group i b r) = tree.group (shaped b) (shaped r)

pub items-shaped : (u : Unfolded) → items u ≡ tree_items (shaped u)
unfolding shaped items tree_items
items-shaped end = refl
items-shaped (action i r) = let h = items-shaped r in omega arith
items-shaped (group i b r) = let h = items-shaped b in let k = items-shaped r in omega arith

pub actions-shaped : (u : Unfolded) → actions u ≡ tree_actions (shaped u)
unfolding shaped actions tree_actions
actions-shaped end = refl
actions-shaped (action i r) = let h = actions-shaped r in omega arith
actions-shaped (group i b r) = let h = actions-shaped b in let k = actions-shaped r in omega arith

pub depth-shaped : (u : Unfolded) → depth u ≡ tree_depth (shaped u)
unfolding shaped depth tree_depth
depth-shaped end = refl
depth-shaped (action i r) = let h = depth-shaped r in omega arith
depth-shaped (group i b r) = let h = depth-shaped b in let k = depth-shaped r in omega arith

passes-shaped : (i : Item) (period d n : ℕ) (b : Unfolded) → shaped (passes i period d n b) ≡ tree_passes n (shaped b)
unfolding shaped passes tree_passes
passes-shaped i period d zero b = refl
passes-shaped i period d (suc n) b = ap (λ (t : Tree). tree.group (shaped b) t) (passes-shaped i period period n b)

sends-shaped : (i : Item) (step d : ℕ) (ns : List ℕ) → shaped (sends i step d ns) ≡ values (length ns)
unfolding shaped sends values
sends-shaped i step d [] = refl
sends-shaped i step d (n ∷ ns) = ap tree.action (sends-shaped i step step ns)

-- ---- an item

pub within_same : (i : Numbered) → tree_within (shape_of i) ≡ within_of i
unfolding tree_within shape_of within_of pick
within_same i = go (is_action i) refl where
  go : (a : Bool) → is_action i ≡ a → tree_within (shape_of i) ≡ within_of i
  go true p = let e : i.item.kind ≡ 0 = eqb-true _ _ p in rw e
  go false p = rw p

inside-shaped : (i : Numbered) (b : Unfolded) → is_action i ≡ false → shaped (inside_of i b) ≡ tree_inside (shape_of i) (shaped b)
unfolding inside_of tree_inside shape_of times_in pick
inside-shaped i b p = go (is_group i) (is_loop i) refl refl where
  go : (g l : Bool) → is_group i ≡ g → is_loop i ≡ l → shaped (inside_of i b) ≡ tree_inside (shape_of i) (shaped b)
  go true l q r = rw q
  go false true q r = rw (p, q, r) (passes-shaped i.item i.each 0 i.times b)
  go false false q r = rw (p, q, r) (sends-shaped i.item i.each 0 i.numbers)

becomes-shaped : (i : Numbered) (b r : Unfolded) → shaped (becomes i b r) ≡ tree_becomes (shape_of i) (shaped b) (shaped r)
unfolding shaped becomes tree_becomes shape_of pick
becomes-shaped i b r = go (is_action i) refl where
  go : (a : Bool) → is_action i ≡ a → shaped (becomes i b r) ≡ tree_becomes (shape_of i) (shaped b) (shaped r)
  go true p = rw p
  go false p = rw p (ap (λ (t : Tree). tree.group t (shaped r)) (inside-shaped i b p))

-- ---- the items of a list

pub shapes-take : (n : ℕ) (is : List Numbered) → take n (shapes_of is) ≡ shapes_of (take n is)
unfolding shapes_of
shapes-take zero is = refl
shapes-take (suc n) [] = refl
shapes-take (suc n) (i ∷ is) = ap (λ (l : List Shape). shape_of i ∷ l) (shapes-take n is)

pub shapes-drop : (n : ℕ) (is : List Numbered) → drop n (shapes_of is) ≡ shapes_of (drop n is)
unfolding shapes_of
shapes-drop zero is = refl
shapes-drop (suc n) [] = refl
shapes-drop (suc n) (i ∷ is) = shapes-drop n is

pub shapes-length : (is : List Numbered) → length (shapes_of is) ≡ length is
unfolding shapes_of
shapes-length [] = refl
shapes-length (i ∷ is) = let h = shapes-length is in omega arith

unfolded-shaped_to : (n : ℕ) (is : List Numbered) → shaped (unfolded_to n is) ≡ tree_to n (shapes_of is)
unfolding shaped unfolded_to tree_to shapes_of
unfolded-shaped_to zero is = refl
unfolded-shaped_to (suc n) [] = refl
unfolded-shaped_to (suc n) (i ∷ is) =
    let w = within_same i in
    let a : shaped (unfolded_to n (take (within_of i) is)) ≡ tree_to n (take (within_of i) (shapes_of is)) = unfolded-shaped_to n (take (within_of i) is) ∙ ap (tree_to n) (sym (shapes-take (within_of i) is)) in
    let b : shaped (unfolded_to n (drop (within_of i) is)) ≡ tree_to n (drop (within_of i) (shapes_of is)) = unfolded-shaped_to n (drop (within_of i) is) ∙ ap (tree_to n) (sym (shapes-drop (within_of i) is)) in
    becomes-shaped i _ _ ∙ rw (w, a, b)

pub unfolded-shaped : (is : List Numbered) → shaped (unfolded is) ≡ tree_unfolded (shapes_of is)
unfolding unfolded tree_unfolded
unfolded-shaped is = unfolded-shaped_to (length is) is ∙ ap (λ (n : ℕ). tree_to n (shapes_of is)) (sym (shapes-length is))

-- ---- the same sizes

pub items-same : (is : List Numbered) → items (unfolded is) ≡ tree_items (tree_unfolded (shapes_of is))
items-same is = items-shaped (unfolded is) ∙ ap tree_items (unfolded-shaped is)

pub actions-same : (is : List Numbered) → actions (unfolded is) ≡ tree_actions (tree_unfolded (shapes_of is))
actions-same is = actions-shaped (unfolded is) ∙ ap tree_actions (unfolded-shaped is)

pub depth_same : (is : List Numbered) → depth (unfolded is) ≡ tree_depth (tree_unfolded (shapes_of is))
depth_same is = depth-shaped (unfolded is) ∙ ap tree_depth (unfolded-shaped is)
