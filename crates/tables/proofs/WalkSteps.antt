-- The walk over the items: which item is next, that it is right with the points left, and which points it leaves.
-- Assumes nothing.
use mathlib.Core.Path.{◌≡◌, refl, ap, ◌∙◌}
use mathlib.Core.Bool.{true}
use mathlib.Core.List.{List, [], ◌∷◌, ◌++◌}
use Prim.Native.Nat.{ℕ, ◌+◌, ◌-◌, ◌*◌, ◌<◌, ◌≤◌}
use native.Mathlib.Omega.{arith}
use lib.ListN.{length, take, length-append}
use mir.Syntax.{w64}
use mir.Val.{Fits}
use borrow.Author.Tests.{eq-eqb, ne_eqb}
use borrow.Author.Rules.{rules}
use Rattle.base.specs.Tests.{pick}
use Rattle.contents.specs.Bytes.{u32_at}
use Rattle.values.specs.Integers.{from_bits}
use Rattle.values.specs.Curves.{Point, curve_values}
use Rattle.values.specs.Inner.{value_of}
use Rattle.extended.specs.declared.Extent.{Extent}
use Rattle.extended.specs.declared.Folded.{Folded}
use Rattle.extended.specs.Layout.{folded_size, point_size, items_start, points_start}
use Rattle.extended.specs.Folds.{folded_at, folded_from}
use Rattle.extended.specs.Points.{point_at, points_from, points_after, values_of, all_values}
use Rattle.extended.specs.Right.{own_right}
use Rattle.extended.specs.Inner.{SmallFolded, Folds, fold, Foldable}
use Rattle.extended.proofs.ListLaws.{points-take, folded_more, folded-none}
use Rattle.extended.proofs.TakeLaws.{takes-times, takes_none, own-curve, right-step, right-points, takes-left, points-behind}
use Rattle.tables.specs.Inner.{points_of, times_as, items_left, points_left, ItemIn, PointIn, Reached, Drawn}

-- ---- what is read

pub item-read : (f : List ℕ) (c : Extent) (k s : ℕ) (i : Folded) → s ≡ items_start c → i ≡ folded_at f (s + folded_size * k) → i ≡ folded_at f (items_start c + folded_size * k)
item-read f c k s i e p = rw (← e) p

pub value_read : (f : List ℕ) (at b r : ℕ) → b ≡ u32_at f at → value_of r ≡ from_bits b → value_of r ≡ (point_at f at).value
unfolding point_at
value_read f at b r e p = rw (← e) p

pub span-read : (f : List ℕ) (at r : ℕ) → r ≡ u32_at f (at + 4) → r ≡ (point_at f at).span
unfolding point_at
span-read f at r e = e

pub ruleset reading = (item-read, value_read, span-read, rules)

-- ---- what an item is by its kind

abbrev curve : ℕ
curve = 3

module _ (i : Folded) where
  module _ (e : i.item.kind ≡ curve) where
    pub times-curve : (n : ℕ) → n ≡ times_as i n
    unfolding times_as pick
    times-curve n = rw (eq-eqb _ 3 e)

    pub values-curve : (ps : List Point) → values_of i ps ≡ curve_values i.each (take i.times ps)
    unfolding values_of pick
    values-curve ps = rw (eq-eqb _ 3 e)

  module _ (n : i.item.kind ≡ curve → ⊥) where
    pub times-plain : (m : ℕ) → i.times ≡ times_as i m
    unfolding times_as pick
    times-plain m = rw (ne_eqb _ 3 n)

    pub values-plain : (ps : List Point) → values_of i ps ≡ []
    unfolding values_of pick
    values-plain ps = rw (ne_eqb _ 3 n)

pub ruleset kinds = (takes-times, takes_none, times-curve, times-plain, rules)

-- ---- an item and the points left

module _ (f : List ℕ) (c : Extent) (used : ℕ) (i : Folded) (asked : Reached f c used i) where
  pub reached-point : PointIn c used
  reached-point = record { small = asked.foldable.small; points = asked.points }

  module _ (e : i.item.kind ≡ curve) where
    taken : i.times ≤ c.points - used
    taken = omega (arith, takes-times i e, takes-left f (points_start c + point_size * used) (c.points - used) i asked.right)

    pub reached-drawn : (from : ℕ) → from ≡ points_start c + point_size * used → Drawn (length f) from i.times i.each
    reached-drawn from s =
        let w = asked.foldable.whole in
        let t = taken in
        let u = asked.points in
        record {
          some = right-points i (points_left f c used) (own-curve i (points_left f c used) e asked.right);
          few = asked.small.times;
          stepped = right-step i (points_left f c used) (own-curve i (points_left f c used) e asked.right);
          small = asked.small.each;
          within = omega arith;
        }

    pub reached-values : (from : ℕ) → from ≡ points_start c + point_size * used → values_of i (points_left f c used) ≡ curve_values i.each (points_from f from i.times)
    reached-values from s = values-curve i e (points_left f c used) ∙ rw (points-take f (points_start c + point_size * used) (c.points - used) i.times taken, ← s)

    pub reached-count : (from r : ℕ) → from ≡ points_start c + point_size * used → r ≡ length (curve_values i.each (points_from f from i.times))
        → r ≡ length (values_of i (points_left f c used))
    reached-count from r s p = rw (reached-values from s) p

  module _ (n : i.item.kind ≡ curve → ⊥) where
    pub reached-none : 0 ≡ length (values_of i (points_left f c used))
    reached-none = rw (values-plain i n (points_left f c used))

  pub used-after : (n : ℕ) → n ≡ points_of i → used + n ≤ c.points
  used-after n p =
      let t = takes-left f (points_start c + point_size * used) (c.points - used) i asked.right in
      let u = asked.points in
      omega arith

  pub left_after : (n : ℕ) → n ≡ points_of i → points_after i (points_left f c used) ≡ points_left f c (used + n)
  left_after n p =
      let t = takes-left f (points_start c + point_size * used) (c.points - used) i asked.right in
      let a : points_start c + point_size * used + point_size * n ≡ points_start c + point_size * (used + n) = omega arith in
      let b : c.points - used - n ≡ c.points - (used + n) = omega arith in
      points-behind f (points_start c + point_size * used) (c.points - used) n i p (omega arith) ∙ rw (a, b)

pub ruleset reaching = (reached-point, reached-drawn, reached-count, reached-none, rules)

-- ---- from item to item

-- The items from k on are right with the points that the first so many leave.
pub record Walk (f : List ℕ) (c : Extent) (k used : ℕ) : Type 0 where
  pub foldable : Foldable f c
  pub items : k ≤ c.items
  pub points : used ≤ c.points
  pub folds : Folds (points_left f c used) (items_left f c k)

right-first : (ps : List Point) (i : Folded) (is : List Folded) → Folds ps (i ∷ is) → own_right i ps ≡ true
right-first ps i is (fold p r) = p

right-others : (ps : List Point) (i : Folded) (is : List Folded) → Folds ps (i ∷ is) → Folds (points_after i ps) is
right-others ps i is (fold p r) = r

-- the first of all
pub items-all : (f : List ℕ) (c : Extent) → items_left f c 0 ≡ folded_from f (items_start c) c.items
items-all f c =
    let a : items_start c + folded_size * 0 ≡ items_start c = omega arith in
    let b : c.items - 0 ≡ c.items = omega arith in
    rw (a, b)

pub points-all : (f : List ℕ) (c : Extent) → points_left f c 0 ≡ points_from f (points_start c) c.points
points-all f c =
    let a : points_start c + point_size * 0 ≡ points_start c = omega arith in
    let b : c.points - 0 ≡ c.points = omega arith in
    rw (a, b)

pub walk_start : (f : List ℕ) (c : Extent) → Foldable f c → Walk f c 0 0
walk_start f c a =
    record { foldable = a; items = omega arith; points = omega arith; folds = rw (points-all f c, items-all f c) a.folds }

module _ (f : List ℕ) (c : Extent) (k used : ℕ) (walk : Walk f c k used) where
  pub walk_none : c.items ≤ k → items_left f c k ≡ []
  walk_none p = folded-none f (items_start c + folded_size * k) (c.items - k) (omega arith)

  module _ (l : k < c.items) where
    pub walk-item : ItemIn (length f) c k
    walk-item =
        let w = walk.foldable.whole in
        record { small = walk.foldable.small; before = l; within = omega arith }

    module _ (i : Folded) (e : i ≡ folded_at f (items_start c + folded_size * k)) where
      pub walk_more : items_left f c k ≡ i ∷ items_left f c (k + 1)
      walk_more =
          let a : items_start c + folded_size * k + folded_size ≡ items_start c + folded_size * (k + 1) = omega arith in
          let b : c.items - k - 1 ≡ c.items - (k + 1) = omega arith in
          rw (e, ← a, ← b) (folded_more f (items_start c + folded_size * k) (c.items - k) (omega arith))

      folds-more : Folds (points_left f c used) (i ∷ items_left f c (k + 1))
      folds-more = rw walk_more at walk.folds

      module _ (small : SmallFolded i) where
        pub walk-reached : Reached f c used i
        walk-reached =
            record { foldable = walk.foldable; points = walk.points; small = small; right = right-first _ _ _ folds-more }

        module _ (n : ℕ) (p : n ≡ points_of i) where
          pub walk-next : Walk f c (k + 1) (used + n)
          walk-next =
              record {
                foldable = walk.foldable;
                items = omega arith;
                points = used-after f c used i walk-reached n p;
                folds = rw (← (left_after f c used i walk-reached n p)) (right-others _ _ _ folds-more);
              }

          pub walk-fits : Fits w64 (used + n)
          walk-fits =
              let l = used-after f c used i walk-reached n p in
              let s = walk.foldable.small.points in
              record { fits = omega arith }

          first-values : all_values (i ∷ items_left f c (k + 1)) (points_left f c used) ≡ values_of i (points_left f c used) ++ all_values (items_left f c (k + 1)) (points_after i (points_left f c used))
          unfolding all_values
          first-values = refl

          -- the values left are this item's and those of the others
          pub walk-values : all_values (items_left f c k) (points_left f c used) ≡ values_of i (points_left f c used) ++ all_values (items_left f c (k + 1)) (points_left f c (used + n))
          walk-values = rw (walk_more, ← (left_after f c used i walk-reached n p)) first-values

          pub walk-count : length (all_values (items_left f c k) (points_left f c used)) ≡ length (values_of i (points_left f c used)) + length (all_values (items_left f c (k + 1)) (points_left f c (used + n)))
          walk-count = ap length walk-values ∙ length-append (values_of i (points_left f c used)) (all_values (items_left f c (k + 1)) (points_left f c (used + n)))
