-- An unfolded score has at least the items that were written and the values of all its curves, where every loop has a pass: a body stands at least once.
-- Assumes nothing.
use mathlib.Core.Path.{◌≡◌, refl, ap, ◌∙◌}
use mathlib.Core.Bool.{Bool, true, false}
use mathlib.Core.List.{List, [], ◌∷◌}
use Prim.Native.Nat.{ℕ, zero, suc, ◌+◌, ◌*◌, ◌≤◌}
use native.Mathlib.Nat.{mul-le-mul_right}
use native.Mathlib.Omega.{arith}
use lib.Dec.{eqb}
use lib.ListN.{length, take, drop, length-take, length-drop, length-append}
use borrow.Author.Tests.{eqb-true, eqb-false}
use Rattle.base.specs.Tests.{pick}
use Rattle.values.specs.Curves.{Point}
use Rattle.extended.specs.declared.Folded.{Folded}
use Rattle.extended.specs.Points.{points_after, values_of, all_values}
use Rattle.extended.specs.Right.{own_right}
use Rattle.extended.specs.Inner.{Folds, all_folds, fold}
use Rattle.shapes.specs.declared.Shape.{Shape}
use Rattle.shapes.specs.Shapes.{Tree, is_action, is_group, is_loop, within_of, unfolded as tree_unfolded, items as tree_items, actions as tree_actions}
use Rattle.shapes.specs.Sizes.{own_of}
use Rattle.shapes.proofs.UnfoldLaws.{adds, unfolded-more}
use Rattle.unfolding.specs.Messages.{Messages, with_values, numbers_of}
use Rattle.unfolding.specs.Extended.{numbered_by, numbered}
use Rattle.unfolding.specs.Unfolded.{unfolded, items, actions}
use Rattle.unfolding.proofs.CountLaws.{numbers-length}
use Rattle.building.specs.Rows.{times_in, shape_of, shapes_of}
use Rattle.building.proofs.KindLaws.{Kinds, a_loop, a_curve, an_action, a_group, kinds, loop-passes, numbered-length}
use Rattle.building.proofs.ShapeLaws.{shapes-length, items-same, actions-same}

-- ---- shapes

-- Every loop has at least one pass.
pub data Looped : List Shape → Type 0 where
  no_loop : Looped []
  looped : {s : Shape} {ss : List Shape} → (s.kind ≡ 2 → 1 ≤ s.times) → Looped ss → Looped (s ∷ ss)

-- The values of a curve, and of all curves.
unfoldable pub own_values : Shape → ℕ
own_values s = pick (is_action s) 0 (pick (is_group s) 0 (pick (is_loop s) 0 s.times))

unfoldable pub values_in : List Shape → ℕ
values_in [] = 0
values_in (s ∷ ss) = own_values s + values_in ss

looped-take : (n : ℕ) (ss : List Shape) → Looped ss → Looped (take n ss)
looped-take zero ss l = no_loop
looped-take (suc n) [] l = no_loop
looped-take (suc n) (s ∷ ss) (looped p l) = looped p (looped-take n ss l)

looped-drop : (n : ℕ) (ss : List Shape) → Looped ss → Looped (drop n ss)
looped-drop zero ss l = l
looped-drop (suc n) [] l = no_loop
looped-drop (suc n) (s ∷ ss) (looped p l) = looped-drop n ss l

values-parts : (n : ℕ) (ss : List Shape) → values_in ss ≡ values_in (take n ss) + values_in (drop n ss)
unfolding values_in
values-parts zero ss = omega arith
values-parts (suc n) [] = omega arith
values-parts (suc n) (s ∷ ss) = let h = values-parts n ss in omega arith

-- what lies within an item is opened and stands at least once, or nothing does
data Opens (s : Shape) : Type 0 where
  shut : within_of s ≡ 0 → Opens s
  opened : (own_of s).opened ≡ within_of s → 1 ≤ (own_of s).inner → Opens s

opens : (s : Shape) → (s.kind ≡ 2 → 1 ≤ s.times) → Opens s
unfolding own_of within_of pick
opens s some = go (is_action s) (is_group s) (eqb s.times 0) (is_loop s) refl refl refl refl where
  go : (a g t l : Bool) → is_action s ≡ a → is_group s ≡ g → eqb s.times 0 ≡ t → is_loop s ≡ l → Opens s
  go true g t l p q r e = shut (rw p)
  go false true t l p q r e = opened (rw (p, q)) (rw (p, q) (omega arith))
  go false false true true p q r e = let x = some (eqb-true _ _ e) in let y = eqb-true s.times 0 r in absurd (omega arith)
  go false false true false p q r e = shut (rw (p, q, e))
  go false false false true p q r e = let n = eqb-false s.times 0 r in opened (rw (p, q, r, e)) (rw (p, q, r, e) (omega arith))
  go false false false false p q r e = shut (rw (p, q, e))

record Own (s : Shape) : Type 0 where
  pub each : 1 ≤ (own_of s).each
  pub sent : own_values s ≤ (own_of s).sent

own : (s : Shape) → Own s
unfolding own_of own_values pick
own s = go (is_action s) (is_group s) (eqb s.times 0) (is_loop s) refl refl refl refl where
  go : (a g t l : Bool) → is_action s ≡ a → is_group s ≡ g → eqb s.times 0 ≡ t → is_loop s ≡ l → Own s
  go true g t l p q r e = record { each = rw p (omega arith); sent = rw p (omega arith) }
  go false true t l p q r e = record { each = rw (p, q) (omega arith); sent = rw (p, q) (omega arith) }
  go false false true true p q r e = record { each = rw (p, q, r) (omega arith); sent = rw (p, q, r, e) (omega arith) }
  go false false true false p q r e = let z : s.times ≡ 0 = eqb-true _ _ r in record { each = rw (p, q, r) (omega arith); sent = rw (p, q, r, e) (omega arith) }
  go false false false true p q r e = record { each = rw (p, q, r, e) (omega arith); sent = rw (p, q, r, e) (omega arith) }
  go false false false false p q r e = record { each = rw (p, q, r, e) (omega arith); sent = rw (p, q, r, e) (omega arith) }

pub record Grown (ss : List Shape) : Type 0 where
  pub items : length ss ≤ tree_items (tree_unfolded ss)
  pub values : values_in ss ≤ tree_actions (tree_unfolded ss)

module _ (s : Shape) (ss : List Shape) (inside : Grown (take (within_of s) ss)) (after : Grown (drop (within_of s) ss)) where
  -- the items and actions of all, as the item and what follows it come to
  abbrev held : ℕ
  held = (own_of s).inner * tree_items (tree_unfolded (take (own_of s).opened ss))

  abbrev sent : ℕ
  sent = (own_of s).inner * tree_actions (tree_unfolded (take (own_of s).opened ss))

  grown-by : length (take (within_of s) ss) ≤ held → values_in (take (within_of s) ss) ≤ sent → Grown (s ∷ ss)
  unfolding values_in
  grown-by p q =
      let e = unfolded-more s ss in
      let d = adds s ss (tree_unfolded (drop (within_of s) ss)) in
      let m = ap tree_items e ∙ d.more in
      let a = ap tree_actions e ∙ d.sent in
      let u = own s in
      let x = u.each in
      let y = u.sent in
      let lt = length-take (within_of s) ss in
      let ld = length-drop (within_of s) ss in
      let v = values-parts (within_of s) ss in
      let i = after.items in
      let j = after.values in
      record { items = omega arith; values = omega arith }

  grown-more : Opens s → Grown (s ∷ ss)
  unfolding values_in
  grown-more (shut w) =
      let n : take (within_of s) ss ≡ [] = ap (λ (k : ℕ). take k ss) w in
      let l : length (take (within_of s) ss) ≡ 0 = ap length n in
      let v : values_in (take (within_of s) ss) ≡ 0 = ap values_in n in
      grown-by (omega arith) (omega arith)
  grown-more (opened o some) =
      let T = tree_unfolded (take (within_of s) ss) in
      let f : tree_unfolded (take (own_of s).opened ss) ≡ T = ap (λ (k : ℕ). tree_unfolded (take k ss)) o in
      let fi : held ≡ (own_of s).inner * tree_items T = ap (λ (t : Tree). (own_of s).inner * tree_items t) f in
      let fa : sent ≡ (own_of s).inner * tree_actions T = ap (λ (t : Tree). (own_of s).inner * tree_actions t) f in
      let a : 1 * tree_items T ≤ (own_of s).inner * tree_items T = mul-le-mul_right (tree_items T) some in
      let b : 1 * tree_actions T ≤ (own_of s).inner * tree_actions T = mul-le-mul_right (tree_actions T) some in
      let i = inside.items in
      let j = inside.values in
      grown-by (omega arith) (omega arith)

grown-all : (n : ℕ) (ss : List Shape) → length ss ≤ n → Looped ss → Grown ss
unfolding values_in
grown-all zero [] p l = record { items = omega arith; values = omega arith }
grown-all zero (s ∷ ss) p l = absurd (omega arith)
grown-all (suc n) [] p l = record { items = omega arith; values = omega arith }
grown-all (suc n) (s ∷ ss) p (looped some l) =
    let t = length-take (within_of s) ss in
    let d = length-drop (within_of s) ss in
    grown-more s ss
    (grown-all n (take (within_of s) ss) (omega arith) (looped-take (within_of s) ss l))
    (grown-all n (drop (within_of s) ss) (omega arith) (looped-drop (within_of s) ss l))
    (opens s some)

pub grown : (ss : List Shape) → Looped ss → Grown ss
grown ss l = grown-all (length ss) ss (omega arith) l

-- ---- the items of an extended score

shapes-looped : (is : List Folded) (ps : List Point) (m : Messages) → Folds ps is → Looped (shapes_of (numbered is ps m))
unfolding numbered shapes_of
shapes-looped [] ps m all_folds = no_loop
shapes-looped (i ∷ is) ps m (fold r rest) = looped (loop-passes i ps m r) (shapes-looped is (points_after i ps) (with_values m (values_of i ps)) rest)

curve-values : (i : Folded) (ps : List Point) (m : Messages) → own_right i ps ≡ true → own_values (shape_of (numbered_by i (numbers_of m (values_of i ps)))) ≡ length (values_of i ps)
unfolding own_values shape_of times_in numbered_by values_of pick
curve-values i ps m r = go (kinds i ps r) where
  go : Kinds i → own_values (shape_of (numbered_by i (numbers_of m (values_of i ps)))) ≡ length (values_of i ps)
  go (a_loop k t) = rw k
  go (a_curve k) = let l = numbers-length m (values_of i ps) in rw k (rw k at l)
  go (an_action k t) = rw k
  go (a_group k t) = rw k

shapes-values : (is : List Folded) (ps : List Point) (m : Messages) → Folds ps is → values_in (shapes_of (numbered is ps m)) ≡ length (all_values is ps)
unfolding numbered shapes_of values_in all_values
shapes-values [] ps m all_folds = refl
shapes-values (i ∷ is) ps m (fold r rest) =
    let a = curve-values i ps m r in
    let b = shapes-values is (points_after i ps) (with_values m (values_of i ps)) rest in
    let c = length-append (values_of i ps) (all_values is (points_after i ps)) in
    omega arith

module _ (is : List Folded) (ps : List Point) (m : Messages) (right : Folds ps is) where
  pub items-least : length is ≤ items (unfolded (numbered is ps m))
  items-least =
      let g : length (shapes_of (numbered is ps m)) ≤ tree_items (tree_unfolded (shapes_of (numbered is ps m))) = (grown (shapes_of (numbered is ps m)) (shapes-looped is ps m right)).items in
      let a = shapes-length (numbered is ps m) in
      let b = numbered-length is ps m in
      let c = items-same (numbered is ps m) in
      omega arith

  pub actions-least : length (all_values is ps) ≤ actions (unfolded (numbered is ps m))
  actions-least =
      let g : values_in (shapes_of (numbered is ps m)) ≤ tree_actions (tree_unfolded (shapes_of (numbered is ps m))) = (grown (shapes_of (numbered is ps m)) (shapes-looped is ps m right)).values in
      let a = shapes-values is ps m right in
      let c = actions-same (numbered is ps m) in
      omega arith
