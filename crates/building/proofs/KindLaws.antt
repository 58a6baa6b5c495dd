-- What an item of an extended score is that is right by itself, and the shape that it has.
-- Assumes nothing.
use mathlib.Core.Path.{◌≡◌, refl, sym, ap}
use mathlib.Core.Bool.{Bool, true, false}
use mathlib.Core.List.{List, [], ◌∷◌, ◌++◌}
use Prim.Native.Nat.{ℕ, ◌≤◌}
use native.Mathlib.Omega.{arith}
use lib.Dec.{eqb}
use lib.IntN.{ℤ}
use lib.ListN.{length}
use borrow.Author.Tests.{eqb-true, eqb-false, leb-true, eq-eqb, ne_eqb}
use Rattle.base.specs.Tests.{pick}
use Rattle.base.proofs.TestLaws.{every-head, every_rest}
use Rattle.values.specs.Curves.{Point}
use Rattle.extended.specs.declared.Folded.{Folded}
use Rattle.extended.specs.Folds.{is_loop, is_curve}
use Rattle.extended.specs.Points.{points_after, values_of}
use Rattle.extended.specs.Right.{loop_right, curve_right, plain_right, own_right}
use Rattle.extended.proofs.TakeLaws.{right-passes}
use Rattle.tables.specs.Tables.{times_of}
use Rattle.unfolding.specs.Messages.{Messages, with_value, with_values, number_of, numbers_of}
use Rattle.unfolding.specs.Extended.{numbered_by, numbered}
use Rattle.unfolding.proofs.CountLaws.{numbers-length}
use Rattle.building.specs.Rows.{times_in, shape_of}

-- ---- what an item is

pub data Kinds (i : Folded) : Type 0 where
  a_loop : i.item.kind ≡ 2 → 1 ≤ i.times → Kinds i
  a_curve : i.item.kind ≡ 3 → Kinds i
  an_action : i.item.kind ≡ 0 → i.times ≡ 0 → Kinds i
  a_group : i.item.kind ≡ 1 → i.times ≡ 0 → Kinds i

right-plain : (i : Folded) → plain_right i ≡ true → Kinds i
unfolding plain_right
right-plain i p = go (eqb i.item.kind 0) refl where
  go : (b : Bool) → eqb i.item.kind 0 ≡ b → Kinds i
  go true e = an_action (eqb-true _ _ e) (eqb-true _ _ (every-head _ _ (every_rest _ _ (every_rest _ _ p))))
  go false e =
      let l : i.item.kind ≤ 1 = leb-true _ _ (every-head _ _ p) in
      let n = eqb-false i.item.kind 0 e in
      a_group (omega arith) (eqb-true _ _ (every-head _ _ (every_rest _ _ (every_rest _ _ p))))

pub kinds : (i : Folded) (ps : List Point) → own_right i ps ≡ true → Kinds i
unfolding own_right pick
kinds i ps r = go (is_loop i) (is_curve i) refl refl (every-head _ _ (every_rest _ _ r)) where
  go : (l c : Bool) → is_loop i ≡ l → is_curve i ≡ c → pick (is_loop i) (loop_right i) (pick (is_curve i) (curve_right i ps) (plain_right i)) ≡ true → Kinds i
  go true c p q h = a_loop (eqb-true _ _ p) (right-passes i (rw p at h))
  go false true p q h = a_curve (eqb-true _ _ q)
  go false false p q h = right-plain i (rw (p, q) at h)

-- ---- message numbers

pub numbers-both : (m : Messages) (xs ys : List ℤ) → numbers_of m (xs ++ ys) ≡ numbers_of m xs ++ numbers_of (with_values m xs) ys
unfolding numbers_of with_values
numbers-both m [] ys = refl
numbers-both m (x ∷ xs) ys = ap (λ (l : List ℕ). number_of m x ∷ l) (numbers-both (with_value m x) xs ys)

pub numbered-length : (is : List Folded) (ps : List Point) (m : Messages) → length (numbered is ps m) ≡ length is
unfolding numbered
numbered-length [] ps m = refl
numbered-length (i ∷ is) ps m = let h = numbered-length is (points_after i ps) (with_values m (values_of i ps)) in omega arith

-- ---- its shape

module _ (i : Folded) (ps : List Point) (m : Messages) (r : own_right i ps ≡ true) where
  pub times-same : times_of i ps ≡ times_in (numbered_by i (numbers_of m (values_of i ps)))
  unfolding times_of times_in numbered_by pick
  times-same = go (kinds i ps r) where
    go : Kinds i → times_of i ps ≡ times_in (numbered_by i (numbers_of m (values_of i ps)))
    go (a_loop k t) = rw k
    go (a_curve k) =
        let l = numbers-length m (values_of i ps) in
        let x : eqb i.item.kind 0 ≡ false = ne_eqb i.item.kind 0 (λ z. omega (arith, z)) in
        let y : eqb i.item.kind 1 ≡ false = ne_eqb i.item.kind 1 (λ z. omega (arith, z)) in
        let w : eqb i.item.kind 2 ≡ false = ne_eqb i.item.kind 2 (λ z. omega (arith, z)) in
        rw (x, y, w, eq-eqb _ 3 k) (sym l)
    go (an_action k t) = rw k t
    go (a_group k t) = rw k t

  pub shape_same : record { kind = i.item.kind; last = i.item.last; times = times_of i ps } ≡ shape_of (numbered_by i (numbers_of m (values_of i ps)))
  unfolding shape_of numbered_by
  shape_same = rw times-same

  pub loop-passes : (shape_of (numbered_by i (numbers_of m (values_of i ps)))).kind ≡ 2 → 1 ≤ (shape_of (numbered_by i (numbers_of m (values_of i ps)))).times
  unfolding shape_of times_in numbered_by pick
  loop-passes two = go (kinds i ps r) where
    go : Kinds i → 1 ≤ (shape_of (numbered_by i (numbers_of m (values_of i ps)))).times
    go (a_loop k t) = rw k t
    go (a_curve k) = absurd (omega arith)
    go (an_action k t) = absurd (omega arith)
    go (a_group k t) = absurd (omega arith)
