-- Laws of the points that an item takes: a right curve takes one and no more than are left, and those behind them are left to the items after it.
-- Assumes nothing.
use mathlib.Core.Path.{◌≡◌, refl, sym, ◌∙◌}
use mathlib.Core.Bool.{Bool, true, false}
use mathlib.Core.List.{List}
use Prim.Native.Nat.{ℕ, ◌+◌, ◌-◌, ◌*◌, ◌≤◌}
use native.Mathlib.Omega.{arith}
use lib.Dec.{eqb}
use lib.ListN.{length, drop}
use borrow.Author.Tests.{eqb-true, eqb-false, eq-eqb, ne_eqb}
use Rattle.base.specs.Tests.{pick}
use Rattle.base.proofs.TestLaws.{every-head, every_rest, between-low, between-high}
use Rattle.contents.specs.Limits.{longest}
use Rattle.values.specs.Curves.{Point}
use Rattle.extended.specs.declared.Folded.{Folded}
use Rattle.extended.specs.Layout.{point_size}
use Rattle.extended.specs.Folds.{is_loop, is_curve}
use Rattle.extended.specs.Points.{points_from, points_after}
use Rattle.extended.specs.Right.{most_passes, loop_right, curve_right, own_right}
use Rattle.extended.specs.Inner.{points_of}
use Rattle.extended.proofs.ListLaws.{points-length, points-drop}

pub takes-times : (i : Folded) → i.item.kind ≡ 3 → i.times ≡ points_of i
unfolding points_of pick
takes-times i e = rw (eq-eqb i.item.kind 3 e)

pub takes_none : (i : Folded) → (i.item.kind ≡ 3 → ⊥) → 0 ≡ points_of i
unfolding points_of pick
takes_none i e = rw (ne_eqb i.item.kind 3 e)

pub own-curve : (i : Folded) (ps : List Point) → i.item.kind ≡ 3 → own_right i ps ≡ true → curve_right i ps ≡ true
unfolding own_right pick
own-curve i ps k e =
    let l : is_loop i ≡ false = ne_eqb i.item.kind 2 (λ q. let z : ◌≡◌ {A = ℕ} 2 3 = sym q ∙ k in omega arith) in
    let c : is_curve i ≡ true = eq-eqb i.item.kind 3 k in
    let rules = every-head _ _ (every_rest _ _ e) in
    rw (l, c) at rules

-- A right loop has a pass, and a right curve a step and a point.
pub right-passes : (i : Folded) → loop_right i ≡ true → 1 ≤ i.times
unfolding loop_right
right-passes i e = between-low 1 most_passes i.times (every-head _ _ (every_rest _ _ e))

pub right-step : (i : Folded) (ps : List Point) → curve_right i ps ≡ true → 1 ≤ i.each
unfolding curve_right
right-step i ps e = between-low 1 longest i.each (every-head _ _ e)

pub right-points : (i : Folded) (ps : List Point) → curve_right i ps ≡ true → 1 ≤ i.times
unfolding curve_right
right-points i ps e = between-low 1 (length ps) i.times (every-head _ _ (every_rest _ _ e))

curve-takes : (i : Folded) (ps : List Point) → i.item.kind ≡ 3 → own_right i ps ≡ true → i.times ≤ length ps
unfolding curve_right
curve-takes i ps k e = between-high _ _ _ (every-head _ _ (every_rest _ _ (own-curve i ps k e)))

pub own-takes : (i : Folded) (ps : List Point) → own_right i ps ≡ true → points_of i ≤ length ps
own-takes i ps e = go (eqb i.item.kind 3) refl where
  go : (t : Bool) → eqb i.item.kind 3 ≡ t → points_of i ≤ length ps
  go true t =
      let k : i.item.kind ≡ 3 = eqb-true _ _ t in
      omega (arith, curve-takes i ps k e, takes-times i k)
  go false t = omega (arith, takes_none i (eqb-false _ _ t))

-- of points that lie in a file
pub takes-left : (f : List ℕ) (p left : ℕ) (i : Folded) → own_right i (points_from f p left) ≡ true → points_of i ≤ left
takes-left f p left i e = omega (arith, own-takes i _ e, points-length f p left)

pub points-behind : (f : List ℕ) (p left n : ℕ) (i : Folded) → n ≡ points_of i → n ≤ left → points_after i (points_from f p left) ≡ points_from f (p + point_size * n) (left - n)
unfolding points_after points_of pick
points-behind f p left n i e h = go (is_curve i) refl where
  go : (t : Bool) → is_curve i ≡ t → pick t (drop i.times (points_from f p left)) (points_from f p left) ≡ points_from f (p + point_size * n) (left - n)
  go true t = let s : n ≡ i.times = rw t at e in rw (← s) (points-drop f p left n h)
  go false t =
      let s : n ≡ 0 = rw t at e in
      let z : p + point_size * n ≡ p = omega arith in
      let y : left - n ≡ left = omega arith in
      rw (z, y)
