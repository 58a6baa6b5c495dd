-- The steps of what is read of the table and of single items, in the code's own terms.
-- Assumes nothing.
use mathlib.Core.Path.{◌≡◌, refl, sym, ap, ◌∙◌}
use mathlib.Core.List.{List, [], ◌∷◌, ◌++◌}
use Prim.Native.Nat.{ℕ, suc, ◌+◌, ◌-◌, ◌*◌, ◌<◌, ◌≤◌, min}
use native.Mathlib.Omega.{arith}
use lib.ListN.{length, get_or, drop, length-take, length-drop}
use borrow.Author.Rules.{rules}
use Rattle.std.specs.Prelude.{Option, Some, None}
use Rattle.ascii.specs.Laying.{Laid}
use Rattle.ascii.proofs.LayLaws.{laid-join, laid-nothing}
use Rattle.page.specs.declared.Item.{Item}
use Rattle.contents.specs.Limits.{item_size, most_items, most_actions, deepest}
use Rattle.contents.specs.Bytes.{part}
use Rattle.contents.proofs.PartLaws.{part-more}
use Rattle.score.specs.Encode.{item_bytes}
use Rattle.score.proofs.EncodingBytes.{part-add, part_none}
use Rattle.shapes.specs.declared.Shape.{Shape}
use Rattle.shapes.specs.declared.Sizes.{Sizes}
use Rattle.shapes.specs.Limits.{row_words}
use Rattle.shapes.specs.Shapes.{Tree, within_of, items, actions, depth}
use Rattle.shapes.specs.Sizes.{told_from}
use Rattle.shapes.proofs.SizeSteps.{sizes-all}
use Rattle.shapes.proofs.SizeLaws.{within-exact, over-exact}
use Rattle.unfolding.specs.Unfolded.{pass_item, send_item, group_item, sends, page}
use Rattle.building.specs.Rows.{first_at}
use Rattle.building.specs.Inner.{page_bytes, delay_of}
use Rattle.building.proofs.PageLaws.{sends_more}

-- ---- what the table says

pub first_read : (table : List ℕ) (k r : ℕ) → r ≡ get_or table (row_words * k + 3) 0 → r ≡ first_at table k
unfolding first_at
first_read table k r e = e

pub times-read : (s t : Shape) (r : ℕ) → s ≡ t → r ≡ s.times → r ≡ t.times
times-read s t r e p = p ∙ ap (λ (x : Shape). x.times) e

pub body-read : (s t : Shape) (w r left : ℕ) → s ≡ t → w ≡ within_of s → r ≡ min w left → r ≡ min (within_of t) left
body-read s t w r left e p q = q ∙ ap (λ (x : ℕ). min x left) (p ∙ ap within_of e)

module _ (w : Option Sizes) (u : Tree) (found : w ≡ told_from 1 0 0 0 u) where
  pub size-found : (s : Sizes) → w ≡ Some s → s.items ≡ items u
  size-found s e = (within-exact u s.items s.actions (sym (sizes-all w u found) ∙ e)).0

  pub size-found-few : (s : Sizes) → w ≡ Some s → s.items ≤ most_items
  size-found-few s e = let x = within-exact u s.items s.actions (sym (sizes-all w u found) ∙ e) in omega arith

  pub size-never : items u ≤ most_items → actions u ≤ most_actions → depth u ≤ deepest → w ≡ None → 0 ≡ items u
  size-never p q r e = absurd (over-exact u (sym (sizes-all w u found) ∙ e) p q r)

pub ruleset tables = (first_read, times-read, body-read, size-found, size-found-few, size-never, rules)

-- ---- single items

module _ (o m : List ℕ) (at r : ℕ) (i : Item) where
  pub lay-group : (last : ℕ) → Laid o at (item_bytes (record { kind = 1; synchrony = i.synchrony; error = i.error; part = i.part; delay = i.delay; event = i.event; last = last } ∷ [])) m r
      → Laid o at (item_bytes (group_item i last ∷ [])) m r
  unfolding group_item
  lay-group last l = l

  pub lay-pass : (delay last : ℕ)
      → Laid o at (item_bytes (group_item (record { kind = i.kind; synchrony = i.synchrony; error = i.error; part = i.part; delay = record { 0 = delay }; event = 0; last = i.last }) last ∷ [])) m r
      → Laid o at (item_bytes (group_item (pass_item i delay) last ∷ [])) m r
  unfolding group_item pass_item
  lay-pass delay last l = l

  pub lay-send : (delay number : ℕ) → Laid o at (item_bytes (record { kind = 0; synchrony = 0; error = 0; part = i.part; delay = record { 0 = delay }; event = 0; last = number } ∷ [])) m r
      → Laid o at (item_bytes (send_item i delay number ∷ [])) m r
  unfolding send_item
  lay-send delay number l = l

pub ruleset pieces = (lay-group, lay-pass, lay-send, rules)

-- ---- a curve's values

part_length : (l : List ℕ) (a n : ℕ) → length (part l a n) ≡ min n (length l - a)
unfolding part
part_length l a n = length-take n (drop a l) ∙ ap (λ (k : ℕ). min n k) (length-drop a l)

part-next : (l : List ℕ) (a n : ℕ) → a + n < length l → part l a (n + 1) ≡ part l a n ++ (get_or l (a + n) 0 ∷ [])
part-next l a n p = part-add l a n 1 ∙ ap (λ (x : List ℕ). part l a n ++ x) (part-more l (a + n) 1 (omega arith) (omega arith) ∙ ap (λ (x : List ℕ). get_or l (a + n) 0 ∷ x) (part_none l (a + n + 1)))

pub values-none : (i : Item) (step : ℕ) (l : List ℕ) (first : ℕ) (o : List ℕ) (to times : ℕ) → to + item_size * times ≤ length o → Laid o to (page_bytes (sends i step 0 (part l first 0))) o to
unfolding sends page item_bytes
values-none i step l first o to times p = rw (part_none l first) (laid-nothing o to (omega arith))

pub delay-first : (each : ℕ) → 0 ≡ delay_of 0 each 0
unfolding delay_of
delay-first each = refl

pub delay-next : (each p : ℕ) → each ≡ delay_of 0 each (p + 1)
unfolding delay_of
delay-next each p = let s : p + 1 ≡ suc p = omega arith in rw s

module _ (l : List ℕ) (first times : ℕ) (whole : length (part l first times) ≡ times) (p : ℕ) (some : p < times) where
  pub value-place : first + p < length l
  value-place = let e = part_length l first times in omega arith

  pub values-step : (i : Item) (step delay n : ℕ) (o m x : List ℕ) (to at r : ℕ) → Laid o to (page_bytes (sends i step 0 (part l first p))) m at → n ≡ get_or l (first + p) 0 → delay ≡ delay_of 0 step p
      → Laid m at (item_bytes (send_item i delay n ∷ [])) x r → Laid o to (page_bytes (sends i step 0 (part l first (p + 1)))) x r
  values-step i step delay n o m x to at r before en ed next =
      let e = part_length l first p in
      let c = value-place in
      let s : length (part l first p) ≡ p = omega arith in
      let t : send_item i delay n ≡ send_item i (delay_of 0 step (length (part l first p))) (get_or l (first + p) 0) = rw (s, ← ed, ← en) in
      rw (part-next l first p c, sends_more i step 0 (part l first p) (get_or l (first + p) 0), ← t) (laid-join o m x _ _ to at r before next)

pub values-all : (i : Item) (step : ℕ) (l : List ℕ) (first times p : ℕ) (o m : List ℕ) (to at : ℕ) → Laid o to (page_bytes (sends i step 0 (part l first p))) m at → p ≤ times → times ≤ p
    → Laid o to (page_bytes (sends i step 0 (part l first times))) m at
values-all i step l first times p o m to at a x y = let e : p ≡ times = omega arith in rw (← e) a

pub ruleset valuing = (values-none, delay-first, delay-next, value-place, values-step, values-all, rules)
