-- Every field of every item of a right table is within its range.
-- By recursion along the walk of the items. Assumes nothing.
use mathlib.Core.Path.{◌≡◌, refl}
use mathlib.Core.Bool.{Bool, true, false}
use mathlib.Core.List.{List, [], ◌∷◌, ◌++◌}
use Prim.Native.Nat.{ℕ, zero, suc, ◌<◌, ◌≤◌}
use native.Mathlib.Omega.{arith}
use lib.ListN.{length, get_or, length-append}
use Rattle.page.specs.declared.Item.{Item}
use Rattle.base.specs.Checks.{fine}
use Rattle.contents.specs.declared.Counts.{Counts}
use Rattle.contents.specs.Limits.{most_items}
use Rattle.contents.specs.Inner.{Counted}
use Rattle.items.specs.declared.Setting.{Setting}
use Rattle.items.specs.Items.{is_action, items_right}
use Rattle.items.specs.Ranged.{Ranged, blank}
use Rattle.items.proofs.Walked.{Right, Walked, walked_none, walked_item, table-walked}

-- ---- one item

item-ranged : {i : Item} {c : Counts} {h : Setting} {left n : ℕ} → Right i c h left n → Counted c → left < most_items → Ranged i
item-ranged {i} r k l =
    record { kind = r.kind; synchrony = r.synchrony; error = r.error; part = r.part; delay = r.delay; event = omega (arith, r.event, k.events); last = last (is_action i) refl }
  where
    last : (b : Bool) → is_action i ≡ b → i.last < most_items
    last true e = omega (arith, r.number e, k.messages)
    last false e = omega (arith, r.end e)

-- ---- every item of a list

pub data Ranges : List Item → Type 0 where
  none : Ranges []
  more : {i : Item} {is : List Item} → Ranged i → Ranges is → Ranges (i ∷ is)

ranges-append : {is js : List Item} → Ranges is → Ranges js → Ranges (is ++ js)
ranges-append none q = q
ranges-append (more p r) q = more p (ranges-append r q)

pub ranges-at : {is : List Item} → Ranges is → (p : ℕ) (d : Item) → p < length is → Ranged (get_or is p d)
ranges-at none p d l = absurd (omega arith)
ranges-at (more r rs) zero d l = r
ranges-at (more r rs) (suc p) d l = ranges-at rs p d (omega arith)

-- ---- every item of a right table

walked-ranges : {c : Counts} {h : Setting} {n m : ℕ} {is : List Item} → Walked c h n is m → Counted c → length is ≤ most_items → Ranges is
walked-ranges walked_none k p = none
walked-ranges (walked_item {b = b} {l = l} r e inner rest) k p =
    let s = length-append b l in
    more (item-ranged r k (omega arith)) (ranges-append (walked-ranges inner k (omega arith)) (walked-ranges rest k (omega arith)))

pub table-ranges : (c : Counts) (is : List Item) → Counted c → length is ≤ most_items → items_right c is ≡ fine → Ranges is
table-ranges c is k p e = walked-ranges (table-walked c is e).1 k p

-- each item of a right table, wherever it stands
pub items-ranged : (c : Counts) (is : List Item) (k : ℕ) → Counted c → items_right c is ≡ fine → length is ≤ most_items → k < length is → Ranged (get_or is k blank)
items-ranged c is k m e few lt = ranges-at (table-ranges c is m few e) k blank lt
