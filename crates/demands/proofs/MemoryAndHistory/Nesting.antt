-- How the items of an accepted file nest: each ends within its holder, none lies deeper than 8, and what lies within a top item has event 0 and its part.
-- By recursion over the walked table. Assumes nothing.
use mathlib.Core.Path.{◌≡◌, refl, ◌∙◌}
use Prim.Native.Nat.{ℕ, zero, suc, ◌+◌, ◌<◌, ◌≤◌}
use mathlib.Core.Bool.{true}
use mathlib.Core.List.{List, [], ◌∷◌, ◌++◌}
use native.Mathlib.Omega.{arith}
use lib.ListN.{length}
use borrow.Author.Tests.{eq-eqb}
use Rattle.page.specs.declared.Item.{Item}
use Rattle.base.specs.Tests.{pick}
use Rattle.contents.specs.declared.Counts.{Counts}
use Rattle.contents.specs.Contents.{counts_of}
use Rattle.items.specs.declared.Setting.{Setting}
use Rattle.items.specs.Items.{within_of, next, inside}
use Rattle.score.specs.Piece.{decode}
use Rattle.score.specs.File.{Accepted}
use Rattle.items.proofs.Walked.{Walked, walked_none, walked_item}
use Rattle.score.proofs.Accepted.{accepted-walked}
use Rattle.rules.specs.Page.{goes_on}

-- Items that go on with the sequence of part q at event i, each with what lies within it: so many levels deep at most.
pub data Nests (i q : ℕ) : (levels : ℕ) → List Item → Type 0 where
  no_nest : {w : ℕ} → Nests i q w []
  one_nest : {w : ℕ} {x : Item} {b l : List Item} → goes_on i q x ≡ true → x.part ≡ q → length b ≡ within_of x → Nests i q w b → Nests i q (suc w) l
      → Nests i q (suc w) (x ∷ (b ++ l))

-- Top items of the events 1 to n, each with what lies within it.
pub data Tops (n : ℕ) : List Item → Type 0 where
  no_top : Tops n []
  one_top : {x : Item} {b l : List Item} → 1 ≤ x.event → x.event ≤ n → length b ≡ within_of x → Nests x.event x.part 7 b → Tops n l
      → Tops n (x ∷ (b ++ l))

-- "An item within a group has event 0 and its group's part."
inner-goes-on : (i q : ℕ) (x : Item) → x.event ≡ 0 → goes_on i q x ≡ true
unfolding goes_on pick
inner-goes-on i q x e = rw (eq-eqb x.event 0 e)

walked-nests : {c : Counts} {h : Setting} {n m : ℕ} {is : List Item} → Walked c h n is m → (i q w : ℕ) → 1 < h.depth → h.part ≡ q → h.depth + w ≡ 9 → Nests i q w is
unfolding inside next
walked-nests walked_none i q w d p s = no_nest
walked-nests (walked_item r e b l) i q zero d p s = absurd (omega (arith, r.depth))
walked-nests (walked_item {i = x} r e b l) i q (suc w) d p s =
    let part = r.inner_part d ∙ p in
    one_nest (inner-goes-on i q x (r.inner_event d)) part e (walked-nests b i q w (omega arith) part (omega arith)) (walked-nests l i q (suc w) d part s)

walked-tops : {c : Counts} {h : Setting} {n m : ℕ} {is : List Item} → Walked c h n is m → h.depth ≡ 1 → Tops c.events is
unfolding inside next
walked-tops walked_none d = no_top
walked-tops (walked_item {i = x} r e b l) d = one_top (r.top_event d) r.event e (walked-nests b x.event x.part 7 (omega arith) refl (omega arith)) (walked-tops l d)

pub accepted-tops : (f : List ℕ) → Accepted f → Tops (counts_of f).events (decode f).items
accepted-tops f a = walked-tops (accepted-walked f a).1 refl
