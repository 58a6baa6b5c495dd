-- "a score with no loop or curve unfolds to itself": its items as they stand are the page, its messages and durations stay, and the file is made of these.
-- Assumes nothing.
use mathlib.Core.Path.{◌≡◌, refl, sym, ap, ◌∙◌}
use mathlib.Core.Bool.{Bool, true, false}
use mathlib.Core.List.{List, [], ◌∷◌, ◌++◌, map, map-append}
use Prim.Native.Nat.{ℕ, zero, suc, ◌+◌, ◌-◌, ◌*◌, ◌<◌, ◌≤◌}
use native.Mathlib.Omega.{arith}
use lib.Dec.{eqb}
use lib.ListN.{length, length-map, take, drop, take-append-drop, length-take, length-drop}
use borrow.Author.Tests.{eqb-true, eqb-false, ne_eqb}
use Rattle.page.specs.declared.Item.{Item}
use Rattle.base.specs.Tests.{pick}
use Rattle.base.specs.Checks.{fine}
use Rattle.values.specs.Curves.{Point}
use Rattle.extended.specs.declared.Folded.{Folded}
use Rattle.extended.specs.Layout.{folded_size, extent_of, events_start, items_start, messages_start, text_start}
use Rattle.extended.specs.Folds.{folded_from, is_curve, held_by}
use Rattle.extended.specs.Points.{points_after, values_of, all_values}
use Rattle.extended.specs.Right.{item_of, end_of, ends_within, extended_right}
use Rattle.extended.proofs.ListLaws.{folded-length, folded-take, folded-drop}
use Rattle.extended.proofs.RightLaws.{right-nests, right-whole}
use Rattle.contents.specs.declared.Counts.{Counts}
use Rattle.contents.proofs.PartLaws.{part_length}
use Rattle.score.proofs.Decoded.{durations-length}
use Rattle.score.specs.Encode.{contents_bytes, duration_bytes, item_bytes}
use Rattle.unfolding.specs.Messages.{Messages, entries_bytes, with_values, numbers_of}
use Rattle.unfolding.specs.Extended.{extended_of, Numbered, numbered_by, numbered}
use Rattle.unfolding.specs.Unfolded.{Unfolded, becomes, within_of, unfolded_to, unfolded, items, group_item, page}
use Rattle.unfolding.specs.Sizes.{score_of, counts_on, file_of}
use Rattle.unfolding.specs.Answers.{unfolded_file}
use Rattle.unfolding.proofs.Shapes.{becomes-action, becomes-group}
use Rattle.unfolding.proofs.CountLaws.{page-length}
use Rattle.unfolding.proofs.MessageLaws.{entries-length}
use Rattle.unfolding.proofs.Nesting.{Ends, end_is, ends-body, ends-rest, ends-all}

-- An item with no passes and no values.
abbrev pub bare : Folded → Numbered
bare i = numbered_by i []

abbrev pub item_in : Folded → Item
item_in i = i.item

-- ---- lists

module _ {A B : Type 0} (g : A → B) where
  map-take : (n : ℕ) (l : List A) → take n (map g l) ≡ map g (take n l)
  map-take zero l = refl
  map-take (suc n) [] = refl
  map-take (suc n) (x ∷ l) = ap (◌∷◌ (g x)) (map-take n l)

  map-drop : (n : ℕ) (l : List A) → drop n (map g l) ≡ map g (drop n l)
  map-drop zero l = refl
  map-drop (suc n) [] = refl
  map-drop (suc n) (x ∷ l) = map-drop n l

-- ---- no curve: no value joins the messages

pub data Uncurved : List Folded → Type 0 where
  no_item : Uncurved []
  item : {i : Folded} {is : List Folded} → i.item.kind ≤ 1 → Uncurved is → Uncurved (i ∷ is)

module _ (i : Folded) (k : i.item.kind ≤ 1) (ps : List Point) where
  no-curve : is_curve i ≡ false
  no-curve = ne_eqb i.item.kind 3 (λ e. omega arith)

  points-stay : points_after i ps ≡ ps
  unfolding points_after pick
  points-stay = rw no-curve

  no-values : values_of i ps ≡ []
  unfolding values_of pick
  no-values = rw no-curve

pub uncurved-numbered : {is : List Folded} → Uncurved is → (ps : List Point) (m : Messages) → numbered is ps m ≡ map bare is
unfolding numbered numbers_of with_values
uncurved-numbered no_item ps m = refl
uncurved-numbered (item {i = i} {is = is} k r) ps m =
    rw (points-stay i k ps, no-values i k ps) (ap (◌∷◌ (bare i)) (uncurved-numbered r ps m))

pub uncurved-values : {is : List Folded} → Uncurved is → (ps : List Point) → all_values is ps ≡ []
unfolding all_values
uncurved-values no_item ps = refl
uncurved-values (item {i = i} {is = is} k r) ps = rw (points-stay i k ps, no-values i k ps) (uncurved-values r ps)

-- ---- no loop: each item is what it was

-- Actions and groups, each of which holds only such as follow it, and so on within it and after what it holds.
pub data Plain : List Folded → Type 0 where
  empty : Plain []
  plain : {i : Folded} {is : List Folded} → i.item.kind ≤ 1 → held_by i ≤ length is → Plain (take (held_by i) is) → Plain (drop (held_by i) is) → Plain (i ∷ is)

module _ (i : Folded) where
  pub held-is : within_of (bare i) ≡ held_by i
  unfolding within_of held_by numbered_by
  held-is = refl

  action-holds : i.item.kind ≡ 0 → held_by i ≡ 0
  unfolding held_by pick
  action-holds k = rw k

  group-holds : i.item.kind ≡ 1 → held_by i ≡ i.item.last
  unfolding held_by pick
  group-holds k = rw k

group-stays : (i : Item) (n : ℕ) → i.kind ≡ 1 → n ≡ i.last → group_item i n ≡ i
unfolding group_item
group-stays i n k l =
    ap (λ (m : ℕ). record { kind = 1; synchrony = i.synchrony; error = i.error; part = i.part; delay = i.delay; event = i.event; last = m }) l
    ∙ ap (λ (m : ℕ). record { kind = m; synchrony = i.synchrony; error = i.error; part = i.part; delay = i.delay; event = i.event; last = i.last }) (sym k)

module _ (i : Folded) (is : List Folded) (body rest : Unfolded) (short : held_by i ≤ length is)
    (within : page body ≡ map item_in (take (held_by i) is)) (after : page rest ≡ map item_in (drop (held_by i) is)) where
  abbrev whole : List Item
  whole = i.item ∷ map item_in is

  page-action : i.item.kind ≡ 0 → page (becomes (bare i) body rest) ≡ whole
  unfolding page numbered_by
  page-action k =
      ap page (becomes-action (bare i) body rest k) ∙ ap (◌∷◌ i.item) (after ∙ ap (λ (n : ℕ). map item_in (drop n is)) (action-holds i k))

  page-group : i.item.kind ≡ 1 → page (becomes (bare i) body rest) ≡ whole
  unfolding page numbered_by
  page-group k =
      let w = held_by i in
      let n : items body ≡ i.item.last = sym (page-length body) ∙ ap length within ∙ length-map (take w is) item_in ∙ length-take w is ∙ omega (arith, group-holds i k) in
      ap page (becomes-group (bare i) body rest k)
      ∙ ap (λ (x : Item). x ∷ (page body ++ page rest)) (group-stays i.item (items body) k n)
      ∙ ap (◌∷◌ i.item) (rw (within, after) (sym (map-append item_in (take w is) (drop w is))) ∙ ap (map item_in) (take-append-drop w is))

  page-step : i.item.kind ≤ 1 → page (becomes (bare i) body rest) ≡ whole
  page-step k = go (eqb i.item.kind 0) refl
    where
      go : (b : Bool) → eqb i.item.kind 0 ≡ b → page (becomes (bare i) body rest) ≡ whole
      go true e = page-action (eqb-true _ _ e)
      go false e = let n = eqb-false i.item.kind 0 e in page-group (omega arith)

page-plain-to : (n : ℕ) {is : List Folded} → Plain is → length is ≤ n → page (unfolded_to n (map bare is)) ≡ map item_in is
unfolding unfolded_to page
page-plain-to zero empty h = refl
page-plain-to zero (plain k s b r) h = absurd (omega arith)
page-plain-to (suc n) empty h = refl
page-plain-to (suc n) (plain {i = i} {is = is} k s b r) h =
    let w = held_by i in
    let x : page (unfolded_to n (take (within_of (bare i)) (map bare is))) ≡ map item_in (take w is) =
    rw (held-is i, map-take bare w is) (page-plain-to n b (omega (arith, length-take w is)))
    in
    let y : page (unfolded_to n (drop (within_of (bare i)) (map bare is))) ≡ map item_in (drop w is) =
    rw (held-is i, map-drop bare w is) (page-plain-to n r (omega (arith, length-drop w is)))
    in
    page-step i is _ _ s x y k

-- Actions and groups that are rightly nested unfold to themselves.
pub page-plain : {is : List Folded} → Plain is → page (unfolded (map bare is)) ≡ map item_in is
unfolding unfolded
page-plain {is} p = page-plain-to (length (map bare is)) p (omega (arith, length-map is bare))

-- ---- a table with no loop and no curve

module _ (f : List ℕ) where
  abbrev table_from : (k count : ℕ) → List Folded
  table_from k count = folded_from f (items_start (extent_of f) + folded_size * k) count

  table-uncurved : (k count : ℕ) → ((j : ℕ) → k ≤ j → j < k + count → (item_of f j).item.kind ≤ 1) → Uncurved (table_from k count)
  unfolding folded_from item_of
  table-uncurved k zero kinds = no_item
  table-uncurved k (suc count) kinds =
      let after = items_start (extent_of f) + folded_size * k + folded_size in
      let a : after ≡ items_start (extent_of f) + folded_size * (k + 1) = omega arith in
      let r : Uncurved (folded_from f after count) = rw a (table-uncurved (k + 1) count (λ j p q. kinds j (omega arith) (omega arith))) in
      item (kinds k (omega arith) (omega arith)) r

  table-plain : (g k count : ℕ) → count ≤ g → Ends f k (k + count) → ((j : ℕ) → k ≤ j → j < k + count → (item_of f j).item.kind ≤ 1) → Plain (table_from k count)
  unfolding folded_from item_of
  table-plain zero k zero p a kinds = empty
  table-plain zero k (suc c) p a kinds = absurd (omega arith)
  table-plain (suc g) k zero p a kinds = empty
  table-plain (suc g) k (suc c) p a kinds =
      let w = held_by (item_of f k) in
      let e = end_is f k in
      let l : end_of f k ≤ k + suc c = a.ends k (omega arith) (omega arith) in
      let short : w ≤ c = omega arith in
      let first = items_start (extent_of f) in
      let next = first + folded_size * k + folded_size in
      let x : next ≡ first + folded_size * (k + 1) = omega arith in
      let y : next + folded_size * w ≡ first + folded_size * (k + 1 + w) = omega arith in
      let t : k + suc c ≡ k + 1 + w + (c - w) = omega arith in
      let within : Plain (table_from (k + 1) w) =
      table-plain g (k + 1) w (omega arith) (ends-body f k (k + suc c) (omega arith) a) (λ j q r. kinds j (omega arith) (omega arith))
      in
      let after : Plain (table_from (k + 1 + w) (c - w)) =
      table-plain g (k + 1 + w) (c - w) (omega arith) (rw t at (ends-rest f k (k + suc c) a)) (λ j q r. kinds j (omega arith) (omega arith))
      in
      plain {i = item_of f k} {is = folded_from f next c} (kinds k (omega arith) (omega arith)) (omega (arith, folded-length f next c))
      (rw (folded-take f next c w short, x) within)
      (rw (folded-drop f next c w short, y) after)

-- ---- the whole score

module _ (f : List ℕ) (nests : (k : ℕ) → k < (extent_of f).items → ends_within f k k ≡ true)
    (kinds : (k : ℕ) → k < (extent_of f).items → (item_of f k).item.kind ≤ 1) where
  abbrev count : ℕ
  count = (extent_of f).items

  table_is : (extended_of f).items ≡ table_from f 0 count
  unfolding extended_of
  table_is = let a : items_start (extent_of f) + folded_size * 0 ≡ items_start (extent_of f) = omega arith in rw a

  uncurved : Uncurved (extended_of f).items
  uncurved = rw table_is (table-uncurved f 0 count (λ j p q. kinds j (omega arith)))

  nested : Plain (extended_of f).items
  nested =
      let a : count ≡ 0 + count = omega arith in
      rw table_is (table-plain f count 0 count (omega arith) (rw a at (ends-all f nests)) (λ j p q. kinds j (omega arith)))

  -- No item has passes or values.
  pub same-numbered : (score_of (extended_of f)).items ≡ unfolded (map bare (extended_of f).items)
  unfolding score_of
  same-numbered = ap unfolded (uncurved-numbered uncurved _ _)

  -- The page is the table's items as they stand.
  pub same-items : page (score_of (extended_of f)).items ≡ map item_in (extended_of f).items
  same-items = ap page same-numbered ∙ page-plain nested

  -- The messages are those that were there.
  pub same-messages : (score_of (extended_of f)).messages ≡ (extended_of f).messages
  unfolding score_of with_values
  same-messages = rw (uncurved-values uncurved (extended_of f).points)

-- The durations are copied, of any extended score.
pub same-durations : (f : List ℕ) → (score_of (extended_of f)).durations ≡ (extended_of f).durations
unfolding score_of
same-durations f = refl

-- ---- the file

-- An extended score's own counts, but for the points.
abbrev pub own_counts : List ℕ → Counts
own_counts f = let c = extent_of f in record { events = c.events; items = c.items; messages = c.messages; text = c.text }

module _ (f : List ℕ) (right : extended_right f ≡ fine) (kinds : (k : ℕ) → k < (extent_of f).items → (item_of f k).item.kind ≤ 1) where
  -- It has as many of each as it had.
  pub same-counts : counts_on (score_of (extended_of f)) ≡ own_counts f
  unfolding counts_on extended_of
  same-counts =
      let c = extent_of f in
      let s = score_of (extended_of f) in
      let nests = right-nests f right in
      let w = right-whole f right in
      let events : length s.durations ≡ c.events = ap length (same-durations f) ∙ durations-length f events_start c.events in
      let many : items s.items ≡ c.items = sym (page-length s.items) ∙ ap length (same-items f nests kinds) ∙ length-map (extended_of f).items item_in ∙ folded-length f (items_start c) c.items in
      let messages : length s.messages.entries ≡ c.messages = ap (λ (m : Messages). length m.entries) (same-messages f nests kinds) ∙ entries-length f (messages_start c) c.messages in
      let text : length s.messages.text ≡ c.text = ap (λ (m : Messages). length m.text) (same-messages f nests kinds) ∙ part_length f (text_start c) c.text (omega arith) in
      rw (events, many, messages, text)

  -- A score with no loop or curve unfolds to itself: its file has its own counts, durations, items, messages and text.
  pub unfolds-to-itself :
      unfolded_file f
      ≡ contents_bytes (own_counts f)
      ++ (duration_bytes (extended_of f).durations
      ++ (item_bytes (map item_in (extended_of f).items) ++ (entries_bytes (extended_of f).messages.entries ++ (extended_of f).messages.text)))
  unfolding unfolded_file file_of
  unfolds-to-itself =
      let nests = right-nests f right in
      rw (same-counts, same-items f nests kinds, same-messages f nests kinds, same-durations f)
