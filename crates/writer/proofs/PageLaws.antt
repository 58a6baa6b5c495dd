-- The text of the message list and of the page, one line or one top item at a time, and the whole text by both.
-- Assumes nothing.
use mathlib.Core.Path.{◌≡◌, refl, sym, ap, ◌∙◌}
use mathlib.Core.Bool.{Bool, true, false}
use mathlib.Core.List.{List, [], ◌∷◌, ◌++◌, append_assoc, append-nil}
use Prim.Native.Nat.{ℕ, zero, suc, ◌+◌, ◌<◌, ◌≤◌}
use native.Mathlib.Omega.{arith}
use lib.ListN.{length, take, drop, get_or, length-drop, drop_of_length-le}
use lib.Seq.{drop-cons, drop-drop}
use lib.Dec.{eqb}
use Rattle.base.specs.Tests.{pick}
use Rattle.page.specs.declared.Item.{Item}
use Rattle.items.specs.Items.{within_of}
use Rattle.items.specs.Ranged.{blank}
use Rattle.score.specs.Piece.{Piece}
use Rattle.text.specs.Grammar.{Line, message, event, part}
use Rattle.text.specs.Written.{Spot, line_text, behind_line, text_of, top_lines, part_line, later_events, page_lines, message_lines, lines, written}
use Rattle.writer.specs.Phrases.{joined, heading_line, message_line, event_line, part_text}
use Rattle.writer.specs.Layouts.{within, behind, items_text, messages_text, page_text, names, change_text, top_text}
use Rattle.writer.proofs.LineLaws.{message-line, line_of_event, part-line, items-then}

-- ---- the page's lines, whatever bounds the recursion

pub page-any : (n m e standing : ℕ) (ds : List ℕ) (is : List Item) → length ds + length is < n → length ds + length is < m → page_lines n e standing ds is ≡ page_lines m e standing ds is
unfolding page_lines later_events
page-any zero m e standing ds is p q = absurd (omega arith)
page-any (suc n) zero e standing ds is p q = absurd (omega arith)
page-any (suc n) (suc m) e standing [] [] p q = refl
page-any (suc n) (suc m) e standing (d ∷ ds) [] p q = rw (page-any n m (suc e) 0 ds [] (omega arith) (omega arith))
page-any (suc n) (suc m) e standing [] (i ∷ is) p q =
    let l = length-drop (within_of i) is in
    rw (page-any n m e (suc i.part) [] (drop (within_of i) is) (omega arith) (omega arith))
page-any (suc n) (suc m) e standing (d ∷ ds) (i ∷ is) p q =
    let l = length-drop (within_of i) is in
    rw (page-any n m e (suc i.part) (d ∷ ds) (drop (within_of i) is) (omega arith) (omega arith), page-any n m (suc e) 0 ds (i ∷ is) (omega arith) (omega arith))

-- ---- what comes next

top-next : (n e standing : ℕ) (ds : List ℕ) (i : Item) (is : List Item) → names e (i ∷ is) ≡ true
    → page_lines (suc n) e standing ds (i ∷ is) ≡ part_line standing i.part ++ (top_lines i is ++ page_lines n e (suc i.part) ds (drop (within_of i) is))
unfolding page_lines names pick
top-next n e standing ds i is p = rw p

event-next : (n e standing d : ℕ) (ds : List ℕ) (is : List Item) → names e is ≡ false → page_lines (suc n) e standing (d ∷ ds) is ≡ event d ∷ page_lines n (suc e) 0 ds is
unfolding page_lines names pick later_events
event-next n e standing d ds [] p = refl
event-next n e standing d ds (i ∷ is) p = rw p

nothing-next : (n e standing : ℕ) (is : List Item) → names e is ≡ false → page_lines (suc n) e standing [] is ≡ []
unfolding page_lines names pick later_events
nothing-next n e standing [] p = refl
nothing-next n e standing (i ∷ is) p = rw p

-- ---- their text

module _ (ls : List (List ℕ)) (s : Spot) where
  part_then : (p : ℕ) (rest : List Line) → text_of ls s (part p ∷ rest) ≡ part_text p ++ text_of ls s rest
  unfolding text_of behind_line
  part_then p rest = rw (part-line ls s p)

  change-then : (standing p : ℕ) (rest : List Line) → text_of ls s (part_line standing p ++ rest) ≡ change_text standing p ++ text_of ls s rest
  unfolding part_line change_text pick
  change-then standing p rest = go (eqb standing (suc p)) where
    go : (t : Bool) → text_of ls s (pick t [] (part p ∷ []) ++ rest) ≡ pick t [] (part_text p) ++ text_of ls s rest
    go true = refl
    go false = part_then p rest

module _ (p : Piece) (e standing i : ℕ) where
  pub page-done : names e (drop i p.items) ≡ false → length p.durations ≤ e → page_text p e standing i ≡ []
  unfolding page_text text_of
  page-done n l =
      let z : drop e p.durations ≡ [] = drop_of_length-le p.durations l in
      let y : 0 + length (drop i p.items) ≡ length (drop i p.items) = omega arith in
      rw (z, y, nothing-next (length (drop i p.items)) e standing (drop i p.items) n)

  pub page-event : names e (drop i p.items) ≡ false → e < length p.durations
      → page_text p e standing i ≡ event_line (get_or p.durations e 0) (e + 1) ++ page_text p (e + 1) 0 i
  unfolding page_text text_of behind_line
  page-event n l =
      let z : e + 1 ≡ suc e = omega arith in
      let ds = drop (suc e) p.durations in
      let is = drop i p.items in
      let y : suc (length ds) + length is ≡ suc (length ds + length is) = omega arith in
      rw (z, drop-cons p.durations e 0 l, y, event-next (suc (length ds + length is)) e standing (get_or p.durations e 0) ds is n, line_of_event p.labels (behind p e) (get_or p.durations e 0))

  module _ (below : i < length p.items) (item : Item) (same : item ≡ get_or p.items i blank) (there : names e (drop i p.items) ≡ true) where
    here : drop i p.items ≡ item ∷ drop (i + 1) p.items
    here = let z : i + 1 ≡ suc i = omega arith in rw (same, z) (drop-cons p.items i blank below)

    -- the items behind this one and those within it
    after : List Item
    after = drop (i + 1 + within_of item) p.items

    top-lines : page_lines (suc (length (drop e p.durations) + length (drop i p.items))) e standing (drop e p.durations) (drop i p.items)
        ≡ part_line standing item.part
        ++ (top_lines item (drop (i + 1) p.items) ++ page_lines (suc (length (drop e p.durations) + length after)) e (item.part + 1) (drop e p.durations) after)
    unfolding after
    top-lines =
        let z : item.part + 1 ≡ suc item.part = omega arith in
        let ds = drop e p.durations in
        let is = drop (i + 1) p.items in
        let a : length (drop (i + 1 + within_of item) p.items) ≤ length is = omega (arith, length-drop (i + 1) p.items, length-drop (i + 1 + within_of item) p.items) in
        rw (
          here,
          z,
          top-next (length ds + length (item ∷ is)) e standing ds item is (rw here at there),
          drop-drop (within_of item) (i + 1) p.items,
          page-any (length ds + length (item ∷ is)) (suc (length ds + length (drop (i + 1 + within_of item) p.items))) e (suc item.part) ds (drop (i + 1 + within_of item) p.items) (omega arith) (omega arith),
        )

    top-is : items_text p i (1 + within_of item) 0 ≡ text_of p.labels (within 0) (top_lines item (drop (i + 1) p.items))
    unfolding items_text top_lines
    top-is = let z : 1 + within_of item ≡ suc (within_of item) = omega arith in rw (z, here)

    top-then : (rest : List Line) → text_of p.labels (behind p e) (top_lines item (drop (i + 1) p.items) ++ rest)
        ≡ text_of p.labels (within 0) (top_lines item (drop (i + 1) p.items)) ++ text_of p.labels (behind p e) rest
    unfolding top_lines
    top-then rest = items-then p.labels (suc (within_of item)) (item ∷ take (within_of item) (drop (i + 1) p.items)) (behind p e) rest

    top-both : (rest : List ℕ) → top_text p standing i item.part (within_of item) ++ rest ≡ change_text standing item.part ++ (items_text p i (1 + within_of item) 0 ++ rest)
    unfolding joined
    top-both rest =
        let c = change_text standing item.part in
        let t = items_text p i (1 + within_of item) 0 in
        ap (λ (l : List ℕ). (c ++ l) ++ rest) (append-nil t) ∙ append_assoc c t rest

    pub page-top : page_text p e standing i ≡ top_text p standing i item.part (within_of item) ++ page_text p e (item.part + 1) (i + 1 + within_of item)
    unfolding page_text after
    page-top =
        let ls = page_lines (suc (length (drop e p.durations) + length after)) e (item.part + 1) (drop e p.durations) after in
        rw (
          top-both (text_of p.labels (behind p e) ls),
          top-lines,
          change-then p.labels (behind p e) standing item.part (top_lines item (drop (i + 1) p.items) ++ ls),
          top-then ls,
          top-is,
        )

-- ---- the message list

pub messages-none : (p : Piece) (k : ℕ) → length p.labels ≤ k → messages_text p k ≡ []
unfolding messages_text message_lines text_of
messages-none p k l = let z : drop k p.labels ≡ [] = drop_of_length-le p.labels l in rw z

pub messages-more : (p : Piece) (k : ℕ) → k < length p.labels → messages_text p k ≡ message_line k (get_or p.labels k []) ++ messages_text p (k + 1)
unfolding messages_text message_lines text_of behind_line
messages-more p k l =
    let z : k + 1 ≡ suc k = omega arith in
    rw (z, drop-cons p.labels k [] l, message-line p.labels (record { messages = k; events = 0; depth = 0 }) (get_or p.labels k []))

list-then : (ls l : List (List ℕ)) (k : ℕ) (rest : List Line)
    → text_of ls (record { messages = k; events = 0; depth = 0 }) (message_lines l ++ rest)
    ≡ text_of ls (record { messages = k; events = 0; depth = 0 }) (message_lines l) ++ text_of ls (record { messages = k + length l; events = 0; depth = 0 }) rest
unfolding message_lines text_of behind_line
list-then ls [] k rest = let z : k + 0 ≡ k = omega arith in rw z
list-then ls (x ∷ l) k rest =
    let z : k + suc (length l) ≡ suc k + length l = omega arith in
    let s : Spot = record { messages = k; events = 0; depth = 0 } in
    let t : Spot = record { messages = suc k; events = 0; depth = 0 } in
    rw (z, list-then ls l (suc k) rest) (sym (append_assoc (line_text ls s (message x)) (text_of ls t (message_lines l)) _))

-- ---- all of it

pub written_is : (p : Piece) → written p ≡ heading_line ++ (messages_text p 0 ++ page_text p 0 0 0)
unfolding written lines text_of line_text behind_line messages_text page_text
written_is p =
    let z : 0 + length p.labels ≡ length p.labels = omega arith in
    ap (λ (l : List ℕ). heading_line ++ l) (rw z at (list-then p.labels p.labels 0 (page_lines (suc (length p.durations + length p.items)) 0 0 p.durations p.items)))
