-- How a table comes to stand as an accepted file's does, in the form of the file check's tests: a top item in order, and a group's items behind it.
-- Assumes nothing.
use mathlib.Core.Path.{◌≡◌, refl}
use Prim.Native.Nat.{ℕ, ◌≤◌}
use mathlib.Core.Bool.{Bool, true, false}
use mathlib.Core.List.{List, [], ◌∷◌, ◌++◌}
use native.Mathlib.Omega.{arith}
use lib.Dec.{ltb, leb, eqb}
use borrow.Author.Tests.{ltb-true, leb-true, eqb-true}
use Rattle.page.specs.declared.Item.{Item}
use Rattle.base.specs.Tests.{pick}
use Rattle.rules.specs.Parts.{Standing, within_group, next_event, same_event}

-- "Top items stand by event and, within an event, by part."
pub top-stands : (i p : ℕ) (x : Item) (is : List Item) → 1 ≤ x.event → pick (eqb x.event i) (leb p x.part) (ltb i x.event) ≡ true →
    Standing x.event x.part is → Standing i p (x ∷ is)
unfolding pick
top-stands i p x is h t s = go (eqb x.event i) refl
  where
    go : (v : Bool) → eqb x.event i ≡ v → Standing i p (x ∷ is)
    go true e =
        let f : x.event ≡ i = eqb-true x.event i e in
        let l : leb p x.part ≡ true = rw (e, pick) at t in
        let g : 1 ≤ i = omega arith in
        same_event g f (leb-true p x.part l) s
    go false e = let l : ltb i x.event ≡ true = rw (e, pick) at t in next_event (ltb-true i x.event l) s

-- "An item within a group has event 0 and its group's part."
pub data Inner (p : ℕ) : List Item → Type 0 where
  no_inner : Inner p []
  inner : {x : Item} {is : List Item} → x.event ≡ 0 → x.part ≡ p → Inner p is → Inner p (x ∷ is)

pub inner-stands : {i p : ℕ} {l r : List Item} → 1 ≤ i → Inner p l → Standing i p r → Standing i p (l ++ r)
inner-stands h no_inner s = s
inner-stands h (inner e f n) s = within_group h e f (inner-stands h n s)

pub inner-append : {p : ℕ} {l r : List Item} → Inner p l → Inner p r → Inner p (l ++ r)
inner-append no_inner k = k
inner-append (inner e f n) k = inner e f (inner-append n k)
