-- The bytes of an unfolded score, part by part.
-- Assumes nothing.
use mathlib.Core.Path.{◌≡◌, refl, sym, ap, ◌∙◌}
use mathlib.Core.Bool.{Bool, true, false}
use mathlib.Core.List.{List, [], ◌∷◌, ◌++◌, append_assoc, append-nil}
use Prim.Native.Nat.{ℕ, zero, suc, ◌+◌, ◌*◌}
use native.Mathlib.Numerals.{add-one}
use native.Mathlib.Omega.{arith}
use lib.ListN.{length, length-append}
use Rattle.base.specs.Tests.{pick}
use Rattle.page.specs.declared.Item.{Item}
use Rattle.contents.specs.Limits.{item_size}
use Rattle.score.specs.Encode.{le16, le32, item_bytes}
use Rattle.unfolding.specs.Extended.{Numbered}
use Rattle.unfolding.specs.Unfolded.{Unfolded, end, action, group, is_action, pass_item, send_item, group_item, passes, sends, inside_of, becomes, items, page}
use Rattle.building.specs.Inner.{page_bytes, delay_of}

-- ---- items one behind the other

item-cons : (i : Item) (is : List Item) → item_bytes (i ∷ is) ≡ item_bytes (i ∷ []) ++ item_bytes is
unfolding item_bytes le32 le16
item-cons i is = refl

items-both : (xs ys : List Item) → item_bytes (xs ++ ys) ≡ item_bytes xs ++ item_bytes ys
unfolding item_bytes le32 le16
items-both [] ys = refl
items-both (x ∷ xs) ys = ap (λ (l : List ℕ). item_bytes (x ∷ []) ++ l) (items-both xs ys)

item-length : (i : Item) → length (item_bytes (i ∷ [])) ≡ item_size
unfolding item_bytes le32 le16
item-length i = refl

pub action-bytes : (i : Item) (r : Unfolded) → page_bytes (action i r) ≡ item_bytes (i ∷ []) ++ page_bytes r
unfolding page
action-bytes i r = item-cons i (page r)

pub group-bytes : (i : Item) (b r : Unfolded) → page_bytes (group i b r) ≡ item_bytes (group_item i (items b) ∷ []) ++ (page_bytes b ++ page_bytes r)
unfolding page
group-bytes i b r = item-cons _ (page b ++ page r) ∙ ap (λ (l : List ℕ). item_bytes (group_item i (items b) ∷ []) ++ l) (items-both (page b) (page r))

pub end-bytes : page_bytes end ≡ []
unfolding page item_bytes
end-bytes = refl

pub group-alone : (i : Item) (b : Unfolded) → page_bytes (group i b end) ≡ item_bytes (group_item i (items b) ∷ []) ++ page_bytes b
group-alone i b = group-bytes i b end ∙ ap (λ (l : List ℕ). item_bytes (group_item i (items b) ∷ []) ++ l) (ap (λ (l : List ℕ). page_bytes b ++ l) end-bytes ∙ append-nil (page_bytes b))

-- ---- lengths

pub bytes-length : (u : Unfolded) → length (page_bytes u) ≡ item_size * items u
unfolding page items item_bytes
bytes-length end = refl
bytes-length (action i r) =
    let h = bytes-length r in
    let e = ap length (action-bytes i r) ∙ length-append (item_bytes (i ∷ [])) (page_bytes r) in
    let l = item-length i in
    omega arith
bytes-length (group i b r) =
    let h = bytes-length b in
    let k = bytes-length r in
    let g = item_bytes (group_item i (items b) ∷ []) in
    let e = ap length (group-bytes i b r) ∙ length-append g (page_bytes b ++ page_bytes r) in
    let f = length-append (page_bytes b) (page_bytes r) in
    let l = item-length (group_item i (items b)) in
    omega arith

-- ---- one more of the same

delay-same : (each n : ℕ) → delay_of each each n ≡ each
unfolding delay_of
delay-same each zero = refl
delay-same each (suc n) = refl

-- lists in three parts, and one more
onward : (g b p x : List ℕ) → g ++ (b ++ (p ++ x)) ≡ (g ++ (b ++ p)) ++ x
onward g b p x = ap (λ (l : List ℕ). g ++ l) (sym (append_assoc b p x)) ∙ sym (append_assoc g (b ++ p) x)

module _ (i : Item) (each : ℕ) where
  -- the pass at a place, and what it holds
  abbrev passed : (d n : ℕ) → Unfolded → List ℕ
  passed d n b = item_bytes (group_item (pass_item i (delay_of d each n)) (items b) ∷ []) ++ page_bytes b

  passes-suc : (d n : ℕ) (b : Unfolded) → page_bytes (passes i each d (suc n) b) ≡ page_bytes (passes i each d n b) ++ passed d n b
  unfolding passes delay_of page item_bytes
  passes-suc d zero b = group-alone (pass_item i d) b
  passes-suc d (suc n) b =
      let h = passes-suc each n b in
      let s = delay-same each n in
      let t : page_bytes (passes i each each (suc n) b) ≡ page_bytes (passes i each each n b) ++ passed d (suc n) b = h ∙ ap (λ (k : ℕ). page_bytes (passes i each each n b) ++ (item_bytes (group_item (pass_item i k) (items b) ∷ []) ++ page_bytes b)) s in
      group-bytes (pass_item i d) b (passes i each each (suc n) b)
      ∙ ap (λ (l : List ℕ). item_bytes (group_item (pass_item i d) (items b) ∷ []) ++ (page_bytes b ++ l)) t
      ∙ onward (item_bytes (group_item (pass_item i d) (items b) ∷ [])) (page_bytes b) (page_bytes (passes i each each n b)) (passed d (suc n) b)
      ∙ ap (λ (l : List ℕ). l ++ passed d (suc n) b) (sym (group-bytes (pass_item i d) b (passes i each each n b)))

  pub passes-more : (d n : ℕ) (b : Unfolded) → page_bytes (passes i each d (n + 1) b) ≡ page_bytes (passes i each d n b) ++ passed d n b
  passes-more d n b = rw (add-one n) (passes-suc d n b)

  pub sends_more : (d : ℕ) (ns : List ℕ) (n : ℕ) → page_bytes (sends i each d (ns ++ (n ∷ []))) ≡ page_bytes (sends i each d ns) ++ item_bytes (send_item i (delay_of d each (length ns)) n ∷ [])
  unfolding sends delay_of page item_bytes
  sends_more d [] n = refl
  sends_more d (x ∷ ns) n =
      let s = delay-same each (length ns) in
      let t = sends_more each ns n ∙ ap (λ (k : ℕ). page_bytes (sends i each each ns) ++ item_bytes (send_item i k n ∷ [])) s in
      action-bytes (send_item i d x) (sends i each each (ns ++ (n ∷ [])))
      ∙ ap (λ (l : List ℕ). item_bytes (send_item i d x ∷ []) ++ l) t
      ∙ sym (append_assoc (item_bytes (send_item i d x ∷ [])) (page_bytes (sends i each each ns)) (item_bytes (send_item i each n ∷ [])))
      ∙ ap (λ (l : List ℕ). l ++ item_bytes (send_item i each n ∷ [])) (sym (action-bytes (send_item i d x) (sends i each each ns)))

-- ---- an item and what follows it

pub item-bytes : (i : Numbered) (b r : Unfolded) → page_bytes (becomes i b r) ≡ page_bytes (becomes i b end) ++ page_bytes r
unfolding becomes pick
item-bytes i b r = go (is_action i) refl where
  go : (t : Bool) → is_action i ≡ t → page_bytes (becomes i b r) ≡ page_bytes (becomes i b end) ++ page_bytes r
  go true e =
      let n : page_bytes (action i.item end) ≡ item_bytes (i.item ∷ []) = action-bytes i.item end ∙ ap (λ (l : List ℕ). item_bytes (i.item ∷ []) ++ l) end-bytes ∙ append-nil (item_bytes (i.item ∷ [])) in
      rw e (action-bytes i.item r ∙ ap (λ (l : List ℕ). l ++ page_bytes r) (sym n))
  go false e =
      let x = inside_of i b in
      rw e (group-bytes i.item x r ∙ sym (append_assoc (item_bytes (group_item i.item (items x) ∷ [])) (page_bytes x) (page_bytes r)) ∙ ap (λ (l : List ℕ). l ++ page_bytes r) (sym (group-alone i.item x)))
