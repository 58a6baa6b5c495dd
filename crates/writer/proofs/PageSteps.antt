-- Each step of the message list and of the page, in the code's own terms. The invariants: what is owed of the list or of the page completes it.
-- Assumes nothing.
use mathlib.Core.Path.{◌≡◌, refl, sym, ◌∙◌}
use mathlib.Core.Bool.{Bool, true, false}
use mathlib.Core.List.{List, [], ◌∷◌, ◌++◌}
use Prim.Native.Nat.{ℕ, suc, ◌+◌, ◌-◌, ◌<◌, ◌≤◌}
use native.Mathlib.Omega.{arith}
use lib.ListN.{length, drop, get_or, drop_of_length-le}
use lib.Seq.{drop-cons}
use lib.Dec.{eqb, ltb}
use borrow.Author.Tests.{eq-eqb, ne_eqb, ltb-true, ltb-false}
use borrow.Author.Rules.{rules}
use Rattle.base.specs.Tests.{pick}
use Rattle.units.specs.declared.Grains.{Grains}
use Rattle.page.specs.declared.Item.{Item}
use Rattle.ascii.specs.Laying.{Laid}
use Rattle.ascii.proofs.LayLaws.{laid-nothing}
use Rattle.contents.specs.Limits.{most_items}
use Rattle.contents.specs.Contents.{counts_of}
use Rattle.items.specs.Items.{within_of}
use Rattle.items.specs.Ranged.{blank}
use Rattle.items.proofs.WalkLaws.{within-action, within_group}
use Rattle.score.specs.Piece.{decode}
use Rattle.score.specs.File.{Accepted}
use Rattle.score.specs.Readers.{EventIn, EventRead, ItemIn, ItemRead}
use Rattle.score.proofs.Decoded.{events-decoded, items-decoded, labels-decoded}
use Rattle.writer.specs.Phrases.{message_line, event_line, part_text}
use Rattle.writer.specs.Layouts.{items_text, Nests, Layable, messages_text, page_text, names, change_text, top_text, Topped}
use Rattle.writer.proofs.Pieces.{first-room, second-room, two-laid}
use Rattle.writer.proofs.Owed.{Owed, owed_start, owed-done, owed-room, owed-laid}
use Rattle.writer.proofs.NestLaws.{accepted-nests, top-fits, top-nests, top-after}
use Rattle.writer.proofs.NestSteps.{items_few}
use Rattle.writer.proofs.PageLaws.{page-done, page-event, page-top, messages-none, messages-more}

-- ---- the message list

pub record Listing (f o : List ℕ) (at : ℕ) (m : List ℕ) (next k : ℕ) : Type 0 where
  pub owed : Owed o at (messages_text (decode f) 0) m next (messages_text (decode f) k)
  pub accepted : Accepted f

pub list-start : (f o : List ℕ) (at : ℕ) → Accepted f → at + length (messages_text (decode f) 0) ≤ length o → Listing f o at o at 0
list-start f o at a p = record { owed = owed_start o at (messages_text (decode f) 0) p; accepted = a }

module _ (f o : List ℕ) (at : ℕ) (m : List ℕ) (next k n : ℕ) (inv : Listing f o at m next k) (count : n ≡ (counts_of f).messages) where
  owed-line : k < n → Owed o at (messages_text (decode f) 0) m next (message_line k (get_or (decode f).labels k []) ++ messages_text (decode f) (k + 1))
  owed-line p = rw (messages-more (decode f) k (rw (labels-decoded f, ← count) p)) at inv.owed

  pub entry-room : k < n → next + length (message_line k (get_or (decode f).labels k [])) ≤ length m
  entry-room p = owed-room o at (messages_text (decode f) 0) m next (message_line k (get_or (decode f).labels k [])) (messages_text (decode f) (k + 1)) (owed-line p)

  pub list-step : k < n → (m' : List ℕ) (r : ℕ) → Laid m next (message_line k (get_or (decode f).labels k [])) m' r → Listing f o at m' r (k + 1)
  list-step p m' r l =
      record {
        owed = owed-laid o at (messages_text (decode f) 0) m next (message_line k (get_or (decode f).labels k [])) (messages_text (decode f) (k + 1)) (owed-line p) m' r l;
        accepted = inv.accepted;
      }

  pub list_done : n ≤ k → Laid o at (messages_text (decode f) 0) m next
  list_done p = owed-done o at (messages_text (decode f) 0) m next _ inv.owed (messages-none (decode f) k (rw (labels-decoded f, ← count) p))

pub ruleset listing = (list-start, entry-room, list-step, list_done, rules)

-- ---- whether a top item stands here

module _ (f : List ℕ) (i e n : ℕ) (count : n ≡ (counts_of f).items) where
  pub stands-none : n ≤ i → false ≡ names e (drop i (decode f).items)
  unfolding names
  stands-none p = let z : drop i (decode f).items ≡ [] = drop_of_length-le (decode f).items {i = i} (rw (items-decoded f, ← count) p) in rw z

  pub stands-there : Accepted f → i < n → ItemIn f i
  stands-there a p = record { accepted = a; below = rw (← count) p }

  pub stands-item : (item : Item) → ItemRead f i item → i < n → eqb item.event e ≡ names e (drop i (decode f).items)
  unfolding names
  stands-item item r p = rw (drop-cons (decode f).items i blank (rw (items-decoded f, ← count) p), ← r.read)

pub ruleset standing = (stands-none, stands-there, stands-item, rules)

-- ---- a part's line, where the part changes

module _ (o : List ℕ) (at standing part : ℕ) where
  same-part : standing ≡ part + 1 → change_text standing part ≡ []
  unfolding change_text pick
  same-part e = let z : standing ≡ suc part = omega arith in rw (eq-eqb standing (suc part) z)

  other_part : (standing ≡ part + 1 → ⊥) → change_text standing part ≡ part_text part
  unfolding change_text pick
  other_part n = rw (ne_eqb standing (suc part) (λ e. n (omega arith)))

  pub change-none : standing ≡ part + 1 → at + length (change_text standing part) ≤ length o → Laid o at (change_text standing part) o at
  change-none e p = rw (same-part e) (laid-nothing o at (omega arith))

  pub change-room : (standing ≡ part + 1 → ⊥) → at + length (change_text standing part) ≤ length o → at + length (part_text part) ≤ length o
  change-room n p = rw (other_part n) at p

  pub change-laid : (m : List ℕ) (r : ℕ) → (standing ≡ part + 1 → ⊥) → Laid o at (part_text part) m r → Laid o at (change_text standing part) m r
  change-laid m r n l = rw (other_part n) l

pub ruleset changes = (change-none, change-room, change-laid, rules)

-- ---- how many items stand within one

pub within_none : (item : Item) → item.kind ≡ 0 → 0 ≡ within_of item
within_none item e = sym (within-action item e)

pub within-last : (item : Item) → (item.kind ≡ 0 → ⊥) → item.last ≡ within_of item
within-last item e = sym (within_group item e)

pub ruleset inner = (within_none, within-last, rules)

-- ---- a top item

module _ (f : List ℕ) (i part n standing : ℕ) (o : List ℕ) (at : ℕ) (asked : Topped f i part n standing o at) where
  pub change-asked : at + length (change_text standing part) ≤ length o
  change-asked = first-room o (change_text standing part) (items_text (decode f) i (1 + n) 0 ∷ []) at asked.room

  pub inner-fits : i + (1 + n) ≤ most_items
  inner-fits = omega (arith, asked.table, items_few f asked.accepted)

  pub items-asked : (m : List ℕ) (a : ℕ) → Laid o at (change_text standing part) m a → Layable f i (1 + n) 0 m a
  items-asked m a l =
      record {
        accepted = asked.accepted;
        nests = asked.nests;
        table = asked.table;
        deep = omega (arith, inner-fits);
        room = second-room o m (change_text standing part) (items_text (decode f) i (1 + n) 0) at a [] l asked.room;
      }

pub ruleset topping = (change-asked, items-asked, two-laid, rules)

-- ---- the page

pub record Paging (f o : List ℕ) (at : ℕ) (m : List ℕ) (next e standing i : ℕ) : Type 0 where
  pub owed : Owed o at (page_text (decode f) 0 0 0) m next (page_text (decode f) e standing i)
  pub accepted : Accepted f
  pub nests : Nests (drop i (decode f).items)
  pub events : e ≤ length (decode f).durations
  pub table : i ≤ length (decode f).items

pub page-start : (f o : List ℕ) (at : ℕ) → Accepted f → at + length (page_text (decode f) 0 0 0) ≤ length o → Paging f o at o at 0 0 0
page-start f o at a p = record { owed = owed_start o at (page_text (decode f) 0 0 0) p; accepted = a; nests = accepted-nests f a; events = omega arith; table = omega arith }

-- an item that names an event is there
named-below : (is : List Item) (i e : ℕ) → names e (drop i is) ≡ true → i < length is
unfolding names
named-below is i e p = go (ltb i (length is)) refl where
  go : (t : Bool) → ltb i (length is) ≡ t → i < length is
  go true q = ltb-true _ _ q
  go false q =
      let z : drop i is ≡ [] = drop_of_length-le is (ltb-false _ _ q) in
      let n : false ≡ true = rw z at p in
      let y : ◌≡◌ {A = ℕ} 0 1 = cc in absurd (omega arith)

module _ (f o : List ℕ) (at : ℕ) (m : List ℕ) (next e standing i : ℕ) (inv : Paging f o at m next e standing i) (here : Bool) (told : here ≡ names e (drop i (decode f).items)) where
  module _ (yes : here ≡ true) where
    there : names e (drop i (decode f).items) ≡ true
    there = sym told ∙ yes

    below : i < length (decode f).items
    below = named-below (decode f).items i e there

    pub top-there : ItemIn f i
    top-there = record { accepted = inv.accepted; below = rw (← (items-decoded f)) below }

    module _ (item : Item) (read : ItemRead f i item) (n : ℕ) (size : n ≡ within_of item) where
      owed-top : Owed o at (page_text (decode f) 0 0 0) m next (top_text (decode f) standing i item.part n ++ page_text (decode f) e (item.part + 1) (i + 1 + n))
      owed-top = rw size (rw (page-top (decode f) e standing i below item read.read there) at inv.owed)

      top-table : i + (1 + n) ≤ length (decode f).items
      top-table = rw size (top-fits (decode f).items i below item read.read inv.nests)

      pub top-few : i + (1 + n) ≤ most_items
      top-few = omega (arith, top-table, items_few f inv.accepted)

      pub top-asked : Topped f i item.part n standing m next
      top-asked =
          record {
            accepted = inv.accepted;
            nests = rw size (top-nests (decode f).items i below item read.read inv.nests);
            table = top-table;
            small = read.ranged.part;
            room = owed-room o at (page_text (decode f) 0 0 0) m next (top_text (decode f) standing i item.part n) (page_text (decode f) e (item.part + 1) (i + 1 + n)) owed-top;
          }

      pub top-falls : length (decode f).durations - e + (length (decode f).items - (i + 1 + n)) < length (decode f).durations - e + (length (decode f).items - i)
      top-falls = omega (arith, top-table)

      pub top-step : (m' : List ℕ) (r : ℕ) → Laid m next (top_text (decode f) standing i item.part n) m' r → Paging f o at m' r e (item.part + 1) (i + 1 + n)
      top-step m' r l =
          record {
            owed = owed-laid o at (page_text (decode f) 0 0 0) m next (top_text (decode f) standing i item.part n) (page_text (decode f) e (item.part + 1) (i + 1 + n)) owed-top m' r l;
            accepted = inv.accepted;
            nests = rw size (top-after (decode f).items i below item read.read inv.nests);
            events = inv.events;
            table = omega (arith, top-table);
          }

  module _ (no : here ≡ false) (n : ℕ) (count : n ≡ (counts_of f).events) where
    none : names e (drop i (decode f).items) ≡ false
    none = sym told ∙ no

    pub page_end : n ≤ e → Laid o at (page_text (decode f) 0 0 0) m next
    page_end p = owed-done o at (page_text (decode f) 0 0 0) m next _ inv.owed (page-done (decode f) e standing i none (rw (events-decoded f, ← count) p))

    module _ (more : e < n) where
      event-below : e < length (decode f).durations
      event-below = rw (events-decoded f, ← count) more

      pub event-there : EventIn f e
      event-there = record { accepted = inv.accepted; below = rw (← count) more }

      pub event-falls : length (decode f).durations - (e + 1) + (length (decode f).items - i) < length (decode f).durations - e + (length (decode f).items - i)
      event-falls = omega (arith, event-below)

      module _ (d : Grains) (read : EventRead f e d) where
        owed-event : Owed o at (page_text (decode f) 0 0 0) m next (event_line d.0 (e + 1) ++ page_text (decode f) (e + 1) 0 i)
        owed-event = rw read.read (rw (page-event (decode f) e standing i none event-below) at inv.owed)

        pub event-room : next + length (event_line d.0 (e + 1)) ≤ length m
        event-room = owed-room o at (page_text (decode f) 0 0 0) m next (event_line d.0 (e + 1)) (page_text (decode f) (e + 1) 0 i) owed-event

        pub event-step : (m' : List ℕ) (r : ℕ) → Laid m next (event_line d.0 (e + 1)) m' r → Paging f o at m' r (e + 1) 0 i
        event-step m' r l =
            record {
              owed = owed-laid o at (page_text (decode f) 0 0 0) m next (event_line d.0 (e + 1)) (page_text (decode f) (e + 1) 0 i) owed-event m' r l;
              accepted = inv.accepted;
              nests = inv.nests;
              events = omega (arith, event-below);
              table = inv.table;
            }

pub ruleset paging = (page-start, top-there, top-asked, top-step, page_end, event-there, event-room, event-step, rules)
