-- The text of the items from a place on, one item at a time, and that the items of an accepted file nest.
-- Assumes nothing.
use mathlib.Core.Path.{◌≡◌, sym, ap, ◌∙◌}
use mathlib.Core.List.{List, [], ◌∷◌, ◌++◌}
use Prim.Native.Nat.{ℕ, zero, suc, ◌+◌, ◌-◌, ◌<◌, ◌≤◌}
use native.Mathlib.Omega.{arith}
use lib.ListN.{length, take, drop, get_or, length-take, length-drop, length-append, drop_of_length-le}
use lib.Seq.{take-nil, drop-cons, drop-drop, take-take, take_at, drop_at, length-take-le}
use Rattle.page.specs.declared.Item.{Item}
use Rattle.contents.specs.declared.Counts.{Counts}
use Rattle.items.specs.declared.Setting.{Setting}
use Rattle.items.specs.Items.{within_of}
use Rattle.items.specs.Ranged.{blank}
use Rattle.items.proofs.Walked.{Walked, walked_none, walked_item}
use Rattle.items.proofs.WalkLaws.{within-action, within_group}
use Rattle.score.specs.Piece.{Piece, decode}
use Rattle.score.specs.File.{Accepted}
use Rattle.score.proofs.Accepted.{accepted-walked}
use Rattle.text.specs.Written.{behind_line, text_of, item_lines}
use Rattle.text.proofs.BodyLaws.{lines-action}
use Rattle.writer.specs.Phrases.{send_line, group_line, close_line}
use Rattle.writer.specs.Layouts.{within, items_text, Nests, no_items, with_item}
use Rattle.writer.proofs.LineLaws.{lines-any, line_of_send, group-alone, items-then}

-- ---- lists

drop-take : {A : Type 0} (n k : ℕ) (l : List A) → n ≤ k → drop n (take k l) ≡ take (k - n) (drop n l)
drop-take zero k l p = let z : k - 0 ≡ k = omega arith in rw z
drop-take (suc n) zero l p = absurd (omega arith)
drop-take (suc n) (suc k) [] p = sym (take-nil (suc k - suc n))
drop-take (suc n) (suc k) (x ∷ l) p = let z : suc k - suc n ≡ k - n = omega arith in rw z (drop-take n k l (omega arith))

pub next-item : (is : List Item) (i n : ℕ) → i + suc n ≤ length is → take (suc n) (drop i is) ≡ get_or is i blank ∷ take n (drop (i + 1) is)
next-item is i n p = let z : i + 1 ≡ suc i = omega arith in rw (z, drop-cons is i blank (omega arith))

-- ---- the text of items

pub items-none : (p : Piece) (i left depth : ℕ) → left ≤ 0 → items_text p i left depth ≡ []
unfolding items_text item_lines text_of
items-none p i left depth l = let z : left ≡ 0 = omega arith in rw z

module _ (p : Piece) (i n depth : ℕ) (fits : i + suc n ≤ length p.items) (item : Item) (same : item ≡ get_or p.items i blank) where
  here : take (suc n) (drop i p.items) ≡ item ∷ take n (drop (i + 1) p.items)
  here = rw same (next-item p.items i n fits)

  action-said : item.kind ≡ 0
      → items_text p i (suc n) depth ≡ send_line depth item.delay.0 item.last (get_or p.labels item.last []) ++ items_text p (i + 1) n depth
  unfolding items_text text_of behind_line
  action-said e = rw (here, lines-action n item (take n (drop (i + 1) p.items)) e, line_of_send p.labels (within depth) item.delay.0 item.last)

  module _ (e : item.kind ≡ 0 → ⊥) (l : item.last ≤ n) where
    body_is : item_lines n (take item.last (take n (drop (i + 1) p.items))) ≡ item_lines item.last (take item.last (drop (i + 1) p.items))
    body_is =
        let t = length-take item.last (drop (i + 1) p.items) in
        rw (take-take item.last n (drop (i + 1) p.items) l) (lines-any n item.last (take item.last (drop (i + 1) p.items)) (omega arith) (omega arith))

    after_is : item_lines n (drop item.last (take n (drop (i + 1) p.items))) ≡ item_lines (n - item.last) (take (n - item.last) (drop (i + 1 + item.last) p.items))
    after_is =
        let t = length-take (n - item.last) (drop (i + 1 + item.last) p.items) in
        rw (drop-take item.last n (drop (i + 1) p.items) l, drop-drop item.last (i + 1) p.items)
        (lines-any n (n - item.last) (take (n - item.last) (drop (i + 1 + item.last) p.items)) (omega arith) (omega arith))

    group-said : items_text p i (suc n) depth
        ≡ group_line depth item.delay.0 item.synchrony item.error
        ++ (items_text p (i + 1) item.last (suc depth) ++ (close_line depth ++ items_text p (i + 1 + item.last) (n - item.last) depth))
    unfolding items_text
    group-said =
        let is = take n (drop (i + 1) p.items) in
        rw (here, ← body_is, ← after_is)
        (group-alone p.labels n item is e (items-then p.labels n (take item.last is)) (items-then p.labels n (drop item.last is)) depth)

-- the same in the code's terms
module _ (p : Piece) (i left depth : ℕ) (more : 0 < left) (fits : i + left ≤ length p.items) (item : Item) (same : item ≡ get_or p.items i blank) where
  left_is : left ≡ suc (left - 1)
  left_is = omega arith

  pub items-action : item.kind ≡ 0
      → items_text p i left depth ≡ send_line depth item.delay.0 item.last (get_or p.labels item.last []) ++ items_text p (i + 1) (left - 1) depth
  items-action e = ap (λ (n : ℕ). items_text p i n depth) left_is ∙ action-said p i (left - 1) depth (omega arith) item same e

  pub items-group : (item.kind ≡ 0 → ⊥) → item.last ≤ left - 1
      → items_text p i left depth
      ≡ group_line depth item.delay.0 item.synchrony item.error
      ++ (items_text p (i + 1) item.last (depth + 1) ++ (close_line depth ++ items_text p (i + 1 + item.last) (left - 1 - item.last) depth))
  items-group e l =
      let z : depth + 1 ≡ suc depth = omega arith in
      ap (λ (n : ℕ). items_text p i n depth) left_is ∙ rw z (group-said p i (left - 1) depth (omega arith) item same e l)

-- ---- what nests

pub record Inner (i : Item) (is : List Item) : Type 0 where
  pub fits : within_of i ≤ length is
  pub body : Nests (take (within_of i) is)
  pub rest : Nests (drop (within_of i) is)

pub nests-inner : {i : Item} {is : List Item} → Nests (i ∷ is) → Inner i is
nests-inner (with_item l b r) = record { fits = l; body = b; rest = r }

module _ (all : List Item) (i left : ℕ) (more : 0 < left) (fits : i + left ≤ length all) (item : Item) (same : item ≡ get_or all i blank)
    (nests : Nests (take left (drop i all))) where
  inner : Inner item (take (left - 1) (drop (i + 1) all))
  inner =
      let z : left ≡ suc (left - 1) = omega arith in
      let e : take left (drop i all) ≡ item ∷ take (left - 1) (drop (i + 1) all) =
      ap (λ (n : ℕ). take n (drop i all)) z ∙ rw same (next-item all i (left - 1) (omega arith)) in
      nests-inner (rw e at nests)

  pub nests-action : item.kind ≡ 0 → Nests (take (left - 1) (drop (i + 1) all))
  nests-action e = rw (within-action item e) at inner.rest

  module _ (e : item.kind ≡ 0 → ⊥) where
    pub last_fits : item.last ≤ left - 1
    last_fits =
        let w : item.last ≤ length (take (left - 1) (drop (i + 1) all)) = rw (within_group item e) at inner.fits in
        omega (arith, length-take (left - 1) (drop (i + 1) all))

    pub nests-body : Nests (take item.last (drop (i + 1) all))
    nests-body =
        let b : Nests (take item.last (take (left - 1) (drop (i + 1) all))) = rw (within_group item e) at inner.body in
        rw (take-take item.last (left - 1) (drop (i + 1) all) last_fits) at b

    pub nests-after : Nests (take (left - 1 - item.last) (drop (i + 1 + item.last) all))
    nests-after =
        let r : Nests (drop item.last (take (left - 1) (drop (i + 1) all))) = rw (within_group item e) at inner.rest in
        rw (drop-take item.last (left - 1) (drop (i + 1) all) last_fits, drop-drop item.last (i + 1) all) at r

-- ---- the items of an accepted file nest

walked-nests : {c : Counts} {h : Setting} {n m : ℕ} {is : List Item} → Walked c h n is m → Nests is
walked-nests walked_none = no_items
walked-nests (walked_item {i = i} {b = b} {l = l} r e body rest) =
    let t : take (within_of i) (b ++ l) ≡ b = take_at b l (within_of i) e in
    let d : drop (within_of i) (b ++ l) ≡ l = drop_at b l (within_of i) e in
    with_item {i = i} {is = b ++ l} (omega (arith, length-append b l)) (rw t (walked-nests body)) (rw d (walked-nests rest))

pub accepted-nests : (f : List ℕ) → Accepted f → Nests (decode f).items
accepted-nests f a = walked-nests (accepted-walked f a).1

-- ---- a top item

module _ (all : List Item) (i : ℕ) (below : i < length all) (item : Item) (same : item ≡ get_or all i blank) (nests : Nests (drop i all)) where
  top-inner : Inner item (drop (i + 1) all)
  top-inner =
      let z : i + 1 ≡ suc i = omega arith in
      let e : drop i all ≡ item ∷ drop (i + 1) all = rw (same, z) (drop-cons all i blank below) in
      nests-inner (rw e at nests)

  pub top-fits : i + (1 + within_of item) ≤ length all
  top-fits = let w = top-inner.fits in omega (arith, length-drop (i + 1) all)

  pub top-nests : Nests (take (1 + within_of item) (drop i all))
  top-nests =
      let w = within_of item in
      let z : 1 + w ≡ suc w = omega arith in
      let e : take (1 + w) (drop i all) ≡ item ∷ take w (drop (i + 1) all) =
      ap (λ (n : ℕ). take n (drop i all)) z ∙ next-item all i w (omega (arith, top-fits)) ∙ ap (λ (x : Item). x ∷ take w (drop (i + 1) all)) (sym same) in
      let t = length-take-le w (drop (i + 1) all) top-inner.fits in
      let b : Nests (take w (take w (drop (i + 1) all))) = rw (take-take w w (drop (i + 1) all) (omega arith)) top-inner.body in
      let d : drop w (take w (drop (i + 1) all)) ≡ [] = drop_of_length-le (take w (drop (i + 1) all)) {i = w} (omega arith) in
      rw e (with_item {i = item} {is = take w (drop (i + 1) all)} (omega arith) b (rw d no_items))

  pub top-after : Nests (drop (i + 1 + within_of item) all)
  top-after = rw (drop-drop (within_of item) (i + 1) all) at top-inner.rest
