-- A span's values one by one, a curve's span by span, and the values of all curves item by item.
-- Assumes nothing.
use mathlib.Core.Path.{◌≡◌, refl}
use mathlib.Core.List.{List, [], ◌∷◌, ◌++◌}
use Prim.Native.Nat.{ℕ, ◌+◌, ◌-◌, ◌*◌, ◌/◌, ◌<◌, ◌≤◌}
use native.Mathlib.Omega.{arith}
use lib.ListN.{length, set}
use borrow.Author.Rules.{rules}
use Rattle.contents.specs.Limits.{most_actions}
use Rattle.values.specs.Integers.{whole_range}
use Rattle.values.specs.Curves.{curve_value, values_from, span_values, curve_values}
use Rattle.values.specs.Inner.{value_of, Within}
use Rattle.extended.specs.declared.Extent.{Extent}
use Rattle.extended.specs.declared.Folded.{Folded}
use Rattle.extended.specs.Layout.{folded_size, point_size, items_start, points_start}
use Rattle.extended.specs.Folds.{folded_at}
use Rattle.extended.specs.Points.{point_at, points_from, values_of, all_values}
use Rattle.extended.specs.Inner.{SmallFolded, Foldable}
use Rattle.tables.specs.Tables.{no_word, values_in, Valued}
use Rattle.tables.specs.Inner.{points_of, items_left, points_left, Reached, Drawn, Spanned, Addable, raised_in, Added}
use Rattle.tables.proofs.CurveCounts.{values-next, place-before, curve-one, curve-more, curve-count}
use Rattle.tables.proofs.ValueLaws.{value-put, added_none, added-join, Adding, adding-start, adding-next, adding-end, adding-room}
use Rattle.tables.proofs.WalkSteps.{Walk, walk_start, walk_none, walk-item, walk-reached, walk-next, walk-fits, walk-values, walk-count, reached-point, reached-drawn, reached-values, values-plain, items-all, points-all}

-- ---- a span

-- The values of the first j steps are added.
pub record Spanning (o : List ℕ) (n v w step d : ℕ) (m : List ℕ) (j : ℕ) : Type 0 where
  pub place : j ≤ d / step
  pub added : Added o n (values_from (value_of v) (value_of w) step d 0 j) m (n + j)

module _ (o : List ℕ) (n v w step d : ℕ) (asked : Addable o n (d / step)) where
  pub spanning-start : Spanning o n v w step d o 0
  unfolding values_from
  spanning-start =
      let r = asked.room in
      let z : n + 0 ≡ n = omega arith in
      record { place = omega arith; added = rw z (added_none o n (record { below = asked.below; room = omega arith })) }

  module _ (m : List ℕ) (j : ℕ) (known : Spanning o n v w step d m j) where
    pub spanning-size : length m ≡ length o
    spanning-size = known.added.size

    module _ (l : j < d / step) where
      pub spanning-place : n + j < length m
      spanning-place =
          let r = asked.room in
          let s = known.added.size in
          omega arith

      pub spanning-within : Spanned v w step d → Within v w step d j
      spanning-within s =
          record { first = s.first; second = s.second; span = s.small; place = place-before d step j s.stepped l }

      pub spanning-next : (x : ℕ) → value_of x ≡ curve_value (value_of v) (value_of w) step d j → x < whole_range → Spanning o n v w step d (set m (n + j) x) (j + 1)
      spanning-next x e b =
          let p = spanning-place in
          let a : Added m (n + j) (value_of x ∷ []) (set m (n + j) x) (n + j + 1) = value-put m (n + j) x b (record { below = known.added.below; room = omega arith }) in
          let z : n + j + 1 ≡ n + (j + 1) = omega arith in
          record {
            place = omega arith;
            added = rw (values-next (value_of v) (value_of w) step d j, ← e, ← z) (added-join o m (set m (n + j) x) _ _ n (n + j) (n + j + 1) known.added a);
          }

    pub spanning-end : d / step ≤ j → Added o n (span_values (value_of v) (value_of w) step d) m (n + d / step)
    unfolding span_values
    spanning-end l =
        let p = known.place in
        let e : j ≡ d / step = omega arith in
        rw e at known.added

pub ruleset spanning = (spanning-start, spanning-size, spanning-place, spanning-within, spanning-next, spanning-end, rules)

pub ruleset putting = (value-put, rules)

-- ---- a curve

-- The values of the points passed are added, and those of the points left are owed.
pub record Drawing (f : List ℕ) (o : List ℕ) (from points step n at left : ℕ) (m : List ℕ) (r : ℕ) : Type 0 where
  pub some : 1 ≤ left
  pub few : left ≤ points
  pub place : at + point_size * left ≡ from + point_size * points
  pub adding : Adding o n (curve_values step (points_from f from points)) (curve_values step (points_from f at left)) m r

module _ (f o : List ℕ) (from points step n : ℕ) (drawn : Drawn (length f) from points step) (asked : Addable o n (length (curve_values step (points_from f from points)))) where
  pub drawing-start : (left : ℕ) → left ≡ points → Drawing f o from points step n from left o n
  drawing-start left u = let s = drawn.some in record { some = omega arith; few = omega arith; place = rw u; adding = rw u (adding-start o n _ asked) }

  module _ (at left : ℕ) (m : List ℕ) (r : ℕ) (known : Drawing f o from points step n at left m r) where
    pub drawing-size : length m ≡ length o
    drawing-size = known.adding.size

    pub drawing-point : at + point_size ≤ length f
    drawing-point =
        let a = known.some in
        let q = known.place in
        let w = drawn.within in
        omega arith

    module _ (l : 1 < left) where
      pub drawing-second : at + point_size + point_size ≤ length f
      drawing-second =
          let q = known.place in
          let w = drawn.within in
          omega arith

      module _ (v w span : ℕ) (ev : value_of v ≡ (point_at f at).value) (ew : value_of w ≡ (point_at f (at + point_size)).value) (es : span ≡ (point_at f at).span) where
        owed : curve_values step (points_from f at left) ≡ span_values (value_of v) (value_of w) step span ++ curve_values step (points_from f (at + point_size) (left - 1))
        owed = rw (ev, ew, es) (curve-more f step at left l)

        pub drawing-room : Addable m r (span / step)
        drawing-room =
            let a = curve-count f step at left l in
            let b : span / step ≡ (point_at f at).span / step = rw es in
            adding-room o m _ _ n r (span / step) known.adding asked (omega arith)

        pub drawing-next : (rest : ℕ) (m' : List ℕ) (r' : ℕ) → rest ≡ left - 1 → Added m r (span_values (value_of v) (value_of w) step span) m' r' → Drawing f o from points step n (at + point_size) rest m' r'
        drawing-next rest m' r' u a =
            let q = known.place in
            let k = known.few in
            record { some = omega arith; few = omega arith; place = omega arith; adding = rw u (adding-next o m m' _ _ _ _ n r r' known.adding owed a) }

    module _ (l : left ≤ 1) where
      one-owed : curve_values step (points_from f at left) ≡ (point_at f at).value ∷ []
      one-owed = curve-one f step at left known.some l

      pub drawing-last : Addable m r 1
      drawing-last = adding-room o m _ _ n r 1 known.adding asked (rw one-owed (omega arith))

      pub drawing-end : (v : ℕ) → value_of v ≡ (point_at f at).value → (m' : List ℕ) (r' : ℕ) → Added m r (value_of v ∷ []) m' r' → Added o n (curve_values step (points_from f from points)) m' r'
      drawing-end v e m' r' a =
          let x : Added m r ((point_at f at).value ∷ []) m' r' = rw e at a in
          adding-end o m' _ _ n r' (adding-next o m m' _ _ _ [] n r r' known.adding one-owed x) refl

pub ruleset drawing = (drawing-start, drawing-size, drawing-point, drawing-second, drawing-room, drawing-next, drawing-last, drawing-end, rules)

-- ---- an item

module _ (f : List ℕ) (c : Extent) (used : ℕ) (i : Folded) (reached : Reached f c used i) (m : List ℕ) (n : ℕ) where
  module _ (e : i.item.kind ≡ 3) (from : ℕ) (s : from ≡ points_start c + point_size * used) where
    pub item_room : Addable m n (length (values_of i (points_left f c used))) → Addable m n (length (curve_values i.each (points_from f from i.times)))
    item_room a = rw (reached-values f c used i reached e from s) at a

    pub item-added : (m' : List ℕ) (r : ℕ) → Added m n (curve_values i.each (points_from f from i.times)) m' r → Added m n (values_of i (points_left f c used)) m' r
    item-added m' r a = rw (reached-values f c used i reached e from s) a

  pub item-plain : (i.item.kind ≡ 3 → ⊥) → Addable m n (length (values_of i (points_left f c used))) → Added m n (values_of i (points_left f c used)) m n
  item-plain d a = rw (values-plain i d (points_left f c used)) (added_none m n (rw (values-plain i d (points_left f c used)) at a))

pub ruleset itemising = (reached-point, reached-drawn, item_room, item-added, item-plain, rules)

-- ---- all items

-- The values of the first k items are added, and those of the others are owed.
pub record Filling (f : List ℕ) (c : Extent) (o : List ℕ) (m : List ℕ) (k used n : ℕ) : Type 0 where
  pub walk : Walk f c k used
  pub adding : Adding o 0 (values_in f c) (all_values (items_left f c k) (points_left f c used)) m n

module _ (f : List ℕ) (c : Extent) (o : List ℕ) (few : length (values_in f c) ≤ most_actions) (room : most_actions ≤ length o) where
  all_room : Addable o 0 (length (values_in f c))
  all_room = record { below = no_word; room = omega arith }

  pub filling-start : Foldable f c → Filling f c o o 0 0 0
  filling-start a = record { walk = walk_start f c a; adding = rw (items-all f c, points-all f c) (adding-start o 0 (values_in f c) all_room) }

  module _ (m : List ℕ) (k used n : ℕ) (known : Filling f c o m k used n) where
    pub filling-size : length m ≡ length o
    filling-size = known.adding.size

    nothing_left : c.items ≤ k → all_values (items_left f c k) (points_left f c used) ≡ []
    unfolding all_values
    nothing_left p = rw (walk_none f c k used known.walk p)

    pub filling-end : c.items ≤ k → Valued f c m n
    unfolding raised_in
    filling-end p =
        let e : all_values (items_left f c k) (points_left f c used) ≡ [] = nothing_left p in
        let a = adding-end o m (values_in f c) _ 0 n known.adding e in
        let s = a.stop in
        record { count = omega arith; values = a.values; below = a.below; few = omega arith }

    module _ (l : k < c.items) where
      module _ (i : Folded) (e : i ≡ folded_at f (items_start c + folded_size * k)) (small : SmallFolded i) where
        pub filling-room : Addable m n (length (values_of i (points_left f c used)))
        filling-room =
            let a = walk-count f c k used known.walk l i e small (points_of i) refl in
            adding-room o m _ _ 0 n _ known.adding all_room (omega arith)

        pub filling-next : (m' : List ℕ) (r u : ℕ) → Added m n (values_of i (points_left f c used)) m' r → u ≡ points_of i → Filling f c o m' (k + 1) (used + u) r
        filling-next m' r u a p =
            record {
              walk = walk-next f c k used known.walk l i e small u p;
              adding = adding-next o m m' _ _ _ _ 0 n r known.adding (walk-values f c k used known.walk l i e small u p) a;
            }

pub ruleset filling = (filling-start, filling-size, filling-end, filling-room, filling-next, walk-item, walk-reached, walk-fits, rules)
