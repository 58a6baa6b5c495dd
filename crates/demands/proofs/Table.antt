-- The items of an accepted file stand as document 01 says: top item by top item, each with what lies within it.
-- By recursion over the walked table. Assumes nothing.
use mathlib.Core.Path.{◌≡◌, refl, ◌∙◌}
use Prim.Native.Nat.{ℕ, ◌<◌}
use mathlib.Core.List.{List}
use native.Mathlib.Omega.{arith}
use Rattle.page.specs.declared.Item.{Item}
use Rattle.contents.specs.declared.Counts.{Counts}
use Rattle.items.specs.declared.Setting.{Setting}
use Rattle.items.specs.Items.{in_order, next, inside}
use Rattle.score.specs.Piece.{decode}
use Rattle.score.specs.File.{Accepted}
use Rattle.items.proofs.Walked.{Walked, walked_none, walked_item}
use Rattle.score.proofs.Accepted.{accepted-walked}
use Rattle.rules.specs.Parts.{Standing, no_items}
use Rattle.rules.proofs.StandingLaws.{top-stands, Inner, no_inner, inner, inner-stands, inner-append}

walked-inner : {c : Counts} {h : Setting} {n m : ℕ} {is : List Item} → Walked c h n is m → (p : ℕ) → 1 < h.depth → h.part ≡ p → Inner p is
unfolding inside next
walked-inner walked_none p d e = no_inner
walked-inner (walked_item r k b l) p d e =
    let part = r.inner_part d ∙ e in
    inner (r.inner_event d) part (inner-append (walked-inner b p (omega arith) part) (walked-inner l p d part))

walked-stands : {c : Counts} {h : Setting} {n m : ℕ} {is : List Item} → Walked c h n is m → h.depth ≡ 1 → Standing h.event h.part is
unfolding inside next in_order
walked-stands walked_none d = no_items
walked-stands (walked_item {i = x} r k b l) d =
    let rest : Standing x.event x.part _ = walked-stands l d in
    top-stands _ _ x _ (r.top_event d) (r.order d) (inner-stands (r.top_event d) (walked-inner b x.part (omega arith) refl) rest)

pub accepted-stands : (f : List ℕ) → Accepted f → Standing 0 0 (decode f).items
accepted-stands f a = walked-stands (accepted-walked f a).1 refl
