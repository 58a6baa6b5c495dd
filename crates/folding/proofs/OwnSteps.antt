-- The items one by one, with the points that are left: what each rule told, and what the items passed leave.
-- Assumes nothing.
use mathlib.Core.Path.{◌≡◌, refl, sym, ◌∙◌, ap, subst}
use mathlib.Core.Bool.{Bool, true, false, not}
use mathlib.Core.List.{List, [], ◌∷◌}
use Prim.Native.Nat.{ℕ, ◌+◌, ◌-◌, ◌*◌, ◌<◌, ◌≤◌}
use native.Mathlib.Numerals.{add-one}
use native.Mathlib.Omega.{arith}
use lib.Dec.{ltb}
use lib.ListN.{length, take}
use borrow.Author.Rules.{rules}
use borrow.Author.Tests.{ltb-true, ltb-false}
use Rattle.base.specs.Tests.{every, between}
use Rattle.base.proofs.TestLaws.{every-last, between_in, between-over, told-true, told-false, tests}
use Rattle.extended.specs.declared.Extent.{Extent}
use Rattle.extended.specs.declared.Folded.{Folded}
use Rattle.extended.specs.Layout.{extent_of, items_start, points_start, whole_size, folded_size, point_size}
use Rattle.extended.specs.Folds.{folded_at}
use Rattle.extended.specs.Points.{points_from, spans_right, points_after}
use Rattle.extended.specs.Right.{own_right, item_of}
use Rattle.extended.proofs.ListLaws.{points-length, points-take}
use Rattle.extended.proofs.TakeLaws.{takes-left, points-behind}
use Rattle.folding.specs.Inner.{Tabled, points_of, points_left, FirstWrong}

-- ---- the points left

points-next : (f : List ℕ) (k : ℕ) → points_left f (k + 1) ≡ points_after (item_of f k) (points_left f k)
unfolding points_left
points-next f k = rw add-one

-- ---- a curve's rules, with so many points left

pub points-over : (f : List ℕ) (at left n : ℕ) → left < n → between 1 (length (points_from f at left)) n ≡ false
points-over f at left n p = between-over 1 (length (points_from f at left)) n (omega (arith, points-length f at left))

pub points-in : (f : List ℕ) (at left n : ℕ) → 1 ≤ n → n ≤ left → between 1 (length (points_from f at left)) n ≡ true
points-in f at left n p q = between_in 1 (length (points_from f at left)) n p (omega (arith, points-length f at left))

pub spans-told : (f : List ℕ) (step at left n : ℕ) (r : Bool) → n ≤ left → r ≡ spans_right step (points_from f at n)
    → r ≡ every (spans_right step (take n (points_from f at left)) ∷ [])
spans-told f step at left n r p e = every-last _ r (rw (points-take f at left n p) e)

pub ruleset curves = (points-over, points-in, spans-told, tests)

-- ---- the points that an item takes

pub takes_told : (f : List ℕ) (p left : ℕ) (i : Folded) (b : Bool) (n : ℕ) → b ≡ own_right i (points_from f p left) → b ≡ true → n ≡ points_of i → n ≤ left
takes_told f p left i b n e h q = omega (arith, q, takes-left f p left i (sym e ∙ h))

-- ---- the loop

-- The items before this number are right by themselves; it stands at the byte at, and the points that they leave from the byte p on.
pub record Reaching (f : List ℕ) (c : Extent) (at number p left : ℕ) : Type 0 where
  pub place : at ≡ items_start c + folded_size * number
  pub most : number ≤ c.items
  pub points : points_left f number ≡ points_from f p left
  pub room : p + point_size * left ≡ whole_size c
  pub first : (k : ℕ) → k < number → own_right (item_of f k) (points_left f k) ≡ true

points-first : (f : List ℕ) (c : Extent) (p : ℕ) → c ≡ extent_of f → p ≡ points_start c → points_left f 0 ≡ points_from f p c.points
unfolding points_left
points-first f c p e q = rw (q, e)

item-read : (f : List ℕ) (c : Extent) (at k : ℕ) (i : Folded) → c ≡ extent_of f → at ≡ items_start c + folded_size * k → i ≡ folded_at f at → item_of f k ≡ i
unfolding item_of
item-read f c at k i t s e =
    let place : at ≡ items_start (extent_of f) + folded_size * k = rw t at s in
    rw (← place, e)

pub reaching-start : (f : List ℕ) (c : Extent) (at p : ℕ) → Tabled f c → at ≡ items_start c → p ≡ points_start c → Reaching f c at 0 p c.points
reaching-start f c at p t a b =
    record { place = omega arith; most = omega arith; points = points-first f c p t.counts b; room = omega arith; first = λ k q. absurd (omega arith) }

module _ (f : List ℕ) (c : Extent) (at number p left : ℕ) (i : Folded) (b : Bool) where
  own_is : Tabled f c → Reaching f c at number p left → i ≡ folded_at f at → b ≡ own_right i (points_from f p left) → b ≡ own_right (item_of f number) (points_left f number)
  own_is t s e q = rw (item-read f c at number i t.counts s.place e, s.points) q

  pub reaching-wrong : Tabled f c → Reaching f c at number p left → i ≡ folded_at f at → b ≡ own_right i (points_from f p left) → not b ≡ true → FirstWrong f c number left
  reaching-wrong t s e q h =
      record { most = s.most; points = ap length s.points ∙ points-length f p left; there = λ l. told-false b _ (own_is t s e q) h; first = s.first }

  pub reaching-more : (n : ℕ) → Tabled f c → Reaching f c at number p left → number < c.items → i ≡ folded_at f at → b ≡ own_right i (points_from f p left) → not b ≡ false → n ≡ points_of i → n ≤ left
      → Reaching f c (at + folded_size) (number + 1) (p + point_size * n) (left - n)
  reaching-more n t s l e q h m u =
      let place : at ≡ items_start c + folded_size * number = s.place in
      let room : p + point_size * left ≡ whole_size c = s.room in
      record { place = omega arith; most = omega arith; points = points; room = omega arith; first = λ k r. first k r (ltb k number) refl }
    where
      right : own_right (item_of f number) (points_left f number) ≡ true
      right = told-true b _ (own_is t s e q) h

      points : points_left f (number + 1) ≡ points_from f (p + point_size * n) (left - n)
      points = rw (points-next, s.points, item-read f c at number i t.counts s.place e) (points-behind f p left n i m u)

      first : (k : ℕ) → k < number + 1 → (v : Bool) → ltb k number ≡ v → own_right (item_of f k) (points_left f k) ≡ true
      first k r true v = s.first k (ltb-true k number v)
      first k r false v =
          let x : number ≤ k = ltb-false k number v in
          let same : number ≡ k = omega arith in
          subst (λ (y : ℕ). own_right (item_of f y) (points_left f y) ≡ true) same right

pub reaching-all : (f : List ℕ) (c : Extent) (at number p left : ℕ) → Reaching f c at number p left → c.items ≤ number → FirstWrong f c c.items left
reaching-all f c at number p left s h =
    let m : number ≤ c.items = s.most in
    let same : number ≡ c.items = omega arith in
    subst (λ (n : ℕ). FirstWrong f c n left) same
    (record { most = m; points = ap length s.points ∙ points-length f p left; there = λ l. absurd (omega arith); first = s.first })

pub ruleset items-reached = (takes_told, reaching-start, reaching-wrong, reaching-more, reaching-all, rules)
