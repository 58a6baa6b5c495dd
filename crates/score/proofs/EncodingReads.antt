-- What is written of a table is read there again: the contents, the durations, the items and the labels, each by what stands from its first byte on.
-- Assumes nothing.
use mathlib.Core.Path.{◌≡◌, refl, ◌∙◌}
use mathlib.Core.Bool.{true}
use mathlib.Core.List.{List, [], ◌∷◌, ◌++◌, append_assoc}
use Prim.Native.Nat.{ℕ, ◌+◌, ◌≤◌}
use native.Mathlib.Omega.{arith}
use lib.ListN.{length, drop, length-append}
use borrow.Author.Tests.{eq-eqb, le-leb}
use Rattle.page.specs.declared.Item.{Item}
use Rattle.base.specs.Tests.{every, between}
use Rattle.base.specs.Checks.{fine, need, first_fault}
use Rattle.base.proofs.TestLaws.{every-head, every_rest}
use Rattle.contents.specs.declared.Counts.{Counts}
use Rattle.contents.specs.declared.Offsets.{Offsets}
use Rattle.contents.specs.Limits.{contents_size, event_size, item_size, message_size, longest_label, most_text}
use Rattle.contents.specs.Bytes.{byte_at, u16_at, u32_at, part}
use Rattle.contents.specs.Contents.{offsets_of, counts_of, events_at, items_at, messages_at, text_at}
use Rattle.contents.specs.Inner.{Counted}
use Rattle.items.specs.Items.{item_at, items_from}
use Rattle.messages.specs.Messages.{readable, label_at, labels_at, message_right, messages_right}
use Rattle.score.specs.Events.{durations_at}
use Rattle.score.specs.Encode.{le16, le32, contents_bytes, duration_bytes, item_bytes, entry_bytes, text_bytes, labels_right}
use Rattle.score.proofs.Fielded.{Fitting, FitItems, no_item, fit_item, FitDurations, no_duration, fit_duration}
use Rattle.score.proofs.EncodingBytes.{drop-on, part-read, byte-read, byte-first, u16-on, u16-read, u32-on, u32-read}

-- ---- the durations

pub durations-read : (f : List ℕ) (at : ℕ) {ds : List ℕ} (ys : List ℕ) → FitDurations ds → drop at f ≡ duration_bytes ds ++ ys → durations_at f at (length ds) ≡ ds
unfolding duration_bytes durations_at
durations-read f at ys no_duration d = refl
durations-read f at ys (fit_duration {d = x} {ds = ds} p r) d =
    let d₁ : drop at f ≡ le32 x ++ (duration_bytes ds ++ ys) = d ∙ append_assoc (le32 x) (duration_bytes ds) ys in
    rw (
      u32-read f at x _ p d₁,
      durations-read f (at + event_size) ys r (u32-on f at x _ d₁),
    )

-- ---- the items

module _ (f : List ℕ) (at : ℕ) (i : Item) (ys : List ℕ)
    (d : drop at f ≡ (i.kind ∷ i.synchrony ∷ i.error ∷ i.part ∷ []) ++ (le32 i.delay.0 ++ (le16 i.event ++ (le16 i.last ++ ys)))) where
  from-delay : drop (at + 4) f ≡ le32 i.delay.0 ++ (le16 i.event ++ (le16 i.last ++ ys))
  from-delay = drop-on f at (i.kind ∷ i.synchrony ∷ i.error ∷ i.part ∷ []) _ d

  from-event : drop (at + 8) f ≡ le16 i.event ++ (le16 i.last ++ ys)
  from-event = let a : at + 4 + 4 ≡ at + 8 = omega arith in rw a at (u32-on f (at + 4) _ _ from-delay)

  pub from_last : drop (at + 10) f ≡ le16 i.last ++ ys
  from_last = let a : at + 8 + 2 ≡ at + 10 = omega arith in rw a at (u16-on f (at + 8) _ _ from-event)

  pub from_next : drop (at + item_size) f ≡ ys
  from_next = let a : at + 10 + 2 ≡ at + item_size = omega arith in rw a at (u16-on f (at + 10) _ _ from_last)

  item-read : Fitting i → item_at f at ≡ i
  unfolding item_at
  item-read r =
      let kind : byte_at f at ≡ i.kind = byte-first f at _ d in
      let synchrony : byte_at f (at + 1) ≡ i.synchrony = byte-read f at 1 _ d in
      let error : byte_at f (at + 2) ≡ i.error = byte-read f at 2 _ d in
      let part : byte_at f (at + 3) ≡ i.part = byte-read f at 3 _ d in
      let delay : u32_at f (at + 4) ≡ i.delay.0 = u32-read f (at + 4) _ _ r.delay from-delay in
      let event : u16_at f (at + 8) ≡ i.event = u16-read f (at + 8) _ _ r.event from-event in
      let last : u16_at f (at + 10) ≡ i.last = u16-read f (at + 10) _ _ r.last from_last in
      rw (kind, synchrony, error, part, delay, event, last)

pub items-read : (f : List ℕ) (at : ℕ) {is : List Item} (ys : List ℕ) → FitItems is → drop at f ≡ item_bytes is ++ ys → items_from f at (length is) ≡ is
unfolding item_bytes items_from
items-read f at ys no_item d = refl
items-read f at ys (fit_item {i = i} {is = is} r rs) d =
    let d₁ = simp append_assoc at d in
    rw (item-read f at i (item_bytes is ++ ys) d₁ r, items-read f (at + item_size) ys rs (from_next f at i (item_bytes is ++ ys) d₁))

-- ---- the labels

-- At the byte at stand the entries of these labels, then ys; at from in the text stand the labels, up to its end.
pub record Entries (f : List ℕ) (c : Counts) (at from : ℕ) (ls : List (List ℕ)) (ys : List ℕ) : Type 0 where
  pub few : c.text ≤ most_text
  pub whole : from + length (text_bytes ls) ≡ c.text
  pub entry : drop at f ≡ entry_bytes from ls ++ ys
  pub text : drop (text_at c + from) f ≡ text_bytes ls

module _ (f : List ℕ) (c : Counts) (at from : ℕ) (l : List ℕ) (ls : List (List ℕ)) (ys : List ℕ) (s : Entries f c at from (l ∷ ls) ys) where
  pub text-whole : from + length l + length (text_bytes ls) ≡ c.text
  unfolding text_bytes
  text-whole = omega (arith, length-append l (text_bytes ls), s.whole)

  at-start : drop at f ≡ le16 from ++ (le16 (length l) ++ (entry_bytes (from + length l) ls ++ ys))
  unfolding entry_bytes
  at-start = simp append_assoc at s.entry

  at_size : drop (at + 2) f ≡ le16 (length l) ++ (entry_bytes (from + length l) ls ++ ys)
  at_size = u16-on f at _ _ at-start

  pub start-read : u16_at f at ≡ from
  start-read = u16-read f at from _ (omega (arith, text-whole, s.few)) at-start

  pub size-read : u16_at f (at + 2) ≡ length l
  size-read = u16-read f (at + 2) (length l) _ (omega (arith, text-whole, s.few)) at_size

  pub text-read : part f (text_at c + from) (length l) ≡ l
  unfolding text_bytes
  text-read = part-read f (text_at c + from) l (text_bytes ls) s.text

  label_read : label_at f c at ≡ l
  unfolding label_at
  label_read = rw (start-read, size-read) text-read

  module _ (right : labels_right (l ∷ ls) ≡ true) where
    label-size : between 1 longest_label (length l) ≡ true
    unfolding labels_right
    label-size = every-head _ _ right

    label-readable : readable l ≡ true
    unfolding labels_right
    label-readable = every-head _ _ (every_rest _ _ right)

    message-right : message_right f c at from ≡ true
    unfolding message_right every
    message-right =
        rw (size-read, text-read, label-size, label-readable, eq-eqb (u16_at f at) from start-read, le-leb (from + length l) c.text (omega (arith, text-whole)))

  pub next-entries : Entries f c (at + message_size) (from + length l) ls ys
  unfolding text_bytes
  next-entries =
      let a : at + 2 + 2 ≡ at + message_size = omega arith in
      let b : text_at c + from + length l ≡ text_at c + (from + length l) = omega arith in
      record {
        few = s.few;
        whole = text-whole;
        entry = rw a at (u16-on f (at + 2) _ _ at_size);
        text = rw b at (drop-on f (text_at c + from) l (text_bytes ls) s.text);
      }

module _ (f : List ℕ) (c : Counts) where
  pub labels-read : (at from : ℕ) (ls : List (List ℕ)) (ys : List ℕ) → Entries f c at from ls ys → labels_at f c at (length ls) ≡ ls
  unfolding labels_at
  labels-read at from [] ys s = refl
  labels-read at from (l ∷ ls) ys s =
      rw (label_read f c at from l ls ys s, labels-read (at + message_size) (from + length l) ls ys (next-entries f c at from l ls ys s))

  pub messages-right : (at from : ℕ) (ls : List (List ℕ)) (ys : List ℕ) → labels_right ls ≡ true → Entries f c at from ls ys → messages_right f c at (length ls) from ≡ fine
  unfolding messages_right labels_right first_fault need text_bytes
  messages-right at from [] ys right s = rw (eq-eqb from c.text (omega (arith, s.whole)))
  messages-right at from (l ∷ ls) ys right s =
      rw (
        message-right f c at from l ls ys s right,
        size-read f c at from l ls ys s,
        messages-right (at + message_size) (from + length l) ls ys (every-head _ _ (every_rest _ _ (every_rest _ _ right))) (next-entries f c at from l ls ys s),
      )

-- ---- the contents

-- The offsets of bodies with these counts.
abbrev pub offsets_in : Counts → Offsets
offsets_in c = record { events = events_at; items = items_at c; messages = messages_at c; text = text_at c }

-- The offsets and the counts in their order, and what follows them.
record Eight (f : List ℕ) (o : Offsets) (c : Counts) (ys : List ℕ) : Type 0 where
  events_offset : u32_at f 0 ≡ o.events
  events : u32_at f 4 ≡ c.events
  items_offset : u32_at f 8 ≡ o.items
  items : u32_at f 12 ≡ c.items
  messages_offset : u32_at f 16 ≡ o.messages
  messages : u32_at f 20 ≡ c.messages
  text_offset : u32_at f 24 ≡ o.text
  text : u32_at f 28 ≡ c.text
  rest : drop contents_size f ≡ ys

module _ (f : List ℕ) (c : Counts) (ys : List ℕ) (k : Counted c) (e : f ≡ contents_bytes c ++ ys) where
  eight-read : Eight f (offsets_in c) c ys
  unfolding contents_bytes
  eight-read =
      let d₀ : drop 0 f ≡ _ = simp append_assoc at e in
      let d₁ = u32-on f 0 _ _ d₀ in
      let d₂ = u32-on f 4 _ _ d₁ in
      let d₃ = u32-on f 8 _ _ d₂ in
      let d₄ = u32-on f 12 _ _ d₃ in
      let d₅ = u32-on f 16 _ _ d₄ in
      let d₆ = u32-on f 20 _ _ d₅ in
      let d₇ = u32-on f 24 _ _ d₆ in
      record {
        events_offset = u32-read f 0 _ _ (omega arith) d₀;
        events = u32-read f 4 _ _ (omega arith) d₁;
        items_offset = u32-read f 8 _ _ (omega arith) d₂;
        items = u32-read f 12 _ _ (omega arith) d₃;
        messages_offset = u32-read f 16 _ _ (omega arith) d₄;
        messages = u32-read f 20 _ _ (omega arith) d₅;
        text_offset = u32-read f 24 _ _ (omega arith) d₆;
        text = u32-read f 28 _ _ (omega arith) d₇;
        rest = u32-on f 28 _ _ d₇;
      }

  pub counts-read : counts_of f ≡ c
  unfolding counts_of
  counts-read = let r = eight-read in rw (r.events, r.items, r.messages, r.text)

  pub offsets-read : offsets_of f ≡ offsets_in c
  unfolding offsets_of
  offsets-read = let r = eight-read in rw (r.events_offset, r.items_offset, r.messages_offset, r.text_offset)

  pub contents-rest : drop contents_size f ≡ ys
  contents-rest = eight-read.rest
