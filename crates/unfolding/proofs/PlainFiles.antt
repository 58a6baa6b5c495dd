-- An ordinary score written as an extended one, with no loop or curve, and what is read of it again: its counts, its items and its messages.
-- Assumes nothing.
use mathlib.Core.Path.{◌≡◌, refl, sym, ap, ◌∙◌}
use mathlib.Core.Bool.{true}
use mathlib.Core.List.{List, [], ◌∷◌, ◌++◌, map, append_assoc, append-nil}
use Prim.Native.Nat.{ℕ, ◌+◌, ◌*◌, ◌<◌, ◌≤◌}
use native.Mathlib.Omega.{arith}
use lib.ListN.{length, get_or, drop, length-append}
use borrow.Author.Tests.{le-leb, eq-eqb}
use Rattle.page.specs.declared.Item.{Item}
use Rattle.base.specs.Tests.{every}
use Rattle.contents.specs.Limits.{message_size, most_text}
use Rattle.contents.specs.Bytes.{u32_at, part}
use Rattle.contents.specs.Inner.{Counted}
use Rattle.items.specs.Items.{item_at, items_from}
use Rattle.score.specs.Piece.{Piece}
use Rattle.score.specs.Events.{durations_at}
use Rattle.score.specs.Encode.{le16, le32, duration_bytes, item_bytes, entry_bytes, text_bytes, counts_in}
use Rattle.score.proofs.EncodingBytes.{drop-on, part-read, u16-on, u16-read, u32-on, u32-read}
use Rattle.score.proofs.Fielded.{Fitting, FitItems, no_item, fit_item, FitDurations}
use Rattle.score.proofs.EncodingReads.{durations-read, items-read}
use Rattle.score.proofs.EncodingPieces.{durations-size, entries-size}
use Rattle.extended.specs.declared.Extent.{Extent}
use Rattle.extended.specs.Layout.{extended_contents, folded_size, extent_of, events_start, items_start, messages_start, text_start, points_start, whole_size, contents_right}
use Rattle.extended.specs.Folds.{folded_at, folded_from}
use Rattle.unfolding.specs.Messages.{entries_from, entries_bytes}
use Rattle.unfolding.specs.Plain.{plain_item, plain_bytes, extent_bytes, plain_extent, plain_file}

-- ---- its size

item-size : (i : Item) → length (item_bytes (i ∷ [])) ≡ 12
unfolding item_bytes le32 le16
item-size i = refl

plain_size : (is : List Item) → length (plain_bytes is) ≡ folded_size * length is
unfolding plain_bytes item_bytes le32 le16
plain_size [] = refl
plain_size (i ∷ is) = omega (arith, plain_size is)

extent-size : (c : Extent) → length (extent_bytes c) ≡ extended_contents
unfolding extent_bytes le32 le16
extent-size c = refl

pub file-size : (p : Piece) → length (plain_file p) ≡ whole_size (plain_extent p)
unfolding plain_file plain_extent counts_in
file-size p = simp (length-append, extent-size, durations-size, plain_size, entries-size) (omega arith)

-- ---- the contents are read again

record Ten (f : List ℕ) (c : Extent) (ys : List ℕ) : Type 0 where
  events_offset : u32_at f 0 ≡ events_start
  events : u32_at f 4 ≡ c.events
  items_offset : u32_at f 8 ≡ items_start c
  items : u32_at f 12 ≡ c.items
  messages_offset : u32_at f 16 ≡ messages_start c
  messages : u32_at f 20 ≡ c.messages
  text_offset : u32_at f 24 ≡ text_start c
  text : u32_at f 28 ≡ c.text
  points_offset : u32_at f 32 ≡ points_start c
  points : u32_at f 36 ≡ c.points
  rest : drop extended_contents f ≡ ys

module _ (f : List ℕ) (c : Extent) (ys : List ℕ) (few : whole_size c < 4294967296) (e : f ≡ extent_bytes c ++ ys) where
  ten-read : Ten f c ys
  unfolding extent_bytes
  ten-read =
      let d₀ : drop 0 f ≡ _ = simp append_assoc at e in
      let d₁ = u32-on f 0 _ _ d₀ in
      let d₂ = u32-on f 4 _ _ d₁ in
      let d₃ = u32-on f 8 _ _ d₂ in
      let d₄ = u32-on f 12 _ _ d₃ in
      let d₅ = u32-on f 16 _ _ d₄ in
      let d₆ = u32-on f 20 _ _ d₅ in
      let d₇ = u32-on f 24 _ _ d₆ in
      let d₈ = u32-on f 28 _ _ d₇ in
      let d₉ = u32-on f 32 _ _ d₈ in
      record {
        events_offset = u32-read f 0 _ _ (omega arith) d₀;
        events = u32-read f 4 _ _ (omega arith) d₁;
        items_offset = u32-read f 8 _ _ (omega arith) d₂;
        items = u32-read f 12 _ _ (omega arith) d₃;
        messages_offset = u32-read f 16 _ _ (omega arith) d₄;
        messages = u32-read f 20 _ _ (omega arith) d₅;
        text_offset = u32-read f 24 _ _ (omega arith) d₆;
        text = u32-read f 28 _ _ (omega arith) d₇;
        points_offset = u32-read f 32 _ _ (omega arith) d₈;
        points = u32-read f 36 _ _ (omega arith) d₉;
        rest = u32-on f 36 _ _ d₉;
      }

  extent-read : extent_of f ≡ c
  unfolding extent_of
  extent-read = let r = ten-read in rw (r.events, r.items, r.messages, r.text, r.points)

  contents-right : length f ≡ whole_size c → contents_right f ≡ true
  unfolding contents_right every
  contents-right w =
      let r = ten-read in
      rw (
        extent-read,
        r.events_offset,
        r.items_offset,
        r.messages_offset,
        r.text_offset,
        r.points_offset,
        w,
        le-leb extended_contents (whole_size c) (omega arith),
        eq-eqb (items_start c) _ refl,
        eq-eqb (messages_start c) _ refl,
        eq-eqb (text_start c) _ refl,
        eq-eqb (points_start c) _ refl,
        eq-eqb (whole_size c) _ refl,
      )

-- ---- the items and the messages are read again

module _ (f : List ℕ) (at : ℕ) (i : Item) (ys : List ℕ) (r : Fitting i) (d : drop at f ≡ item_bytes (i ∷ []) ++ (le32 0 ++ (le16 0 ++ (le16 0 ++ ys)))) where
  own_read : item_at f at ≡ i
  unfolding items_from
  own_read = ap (λ (l : List Item). get_or l 0 i) (items-read f at _ (fit_item r no_item) d)

  after-item : drop (at + 12) f ≡ le32 0 ++ (le16 0 ++ (le16 0 ++ ys))
  after-item = rw (item-size i) at (drop-on f at (item_bytes (i ∷ [])) _ d)

  after-each : drop (at + 16) f ≡ le16 0 ++ (le16 0 ++ ys)
  after-each = let a : at + 12 + 4 ≡ at + 16 = omega arith in rw a at (u32-on f (at + 12) _ _ after-item)

  after-times : drop (at + 18) f ≡ le16 0 ++ ys
  after-times = let a : at + 16 + 2 ≡ at + 18 = omega arith in rw a at (u16-on f (at + 16) _ _ after-each)

  after-folded : drop (at + folded_size) f ≡ ys
  after-folded = let a : at + 18 + 2 ≡ at + folded_size = omega arith in rw a at (u16-on f (at + 18) _ _ after-times)

  folded_read : folded_at f at ≡ plain_item i
  unfolding folded_at plain_item
  folded_read =
      rw (
        own_read,
        u32-read f (at + 12) 0 _ (omega arith) after-item,
        u16-read f (at + 16) 0 _ (omega arith) after-each,
        u16-read f (at + 18) 0 _ (omega arith) after-times,
      )

plain-read : (f : List ℕ) (at : ℕ) {is : List Item} (ys : List ℕ) → FitItems is → drop at f ≡ plain_bytes is ++ ys → folded_from f at (length is) ≡ map plain_item is
unfolding plain_bytes folded_from
plain-read f at ys no_item d = refl
plain-read f at ys (fit_item {i = i} {is = is} r rs) d =
    let d₁ : drop at f ≡ item_bytes (i ∷ []) ++ (le32 0 ++ (le16 0 ++ (le16 0 ++ (plain_bytes is ++ ys)))) = simp append_assoc at d in
    rw (folded_read f at i (plain_bytes is ++ ys) r d₁, plain-read f (at + folded_size) ys rs (after-folded f at i (plain_bytes is ++ ys) r d₁))

entries-back : (f : List ℕ) (at from : ℕ) (ls : List (List ℕ)) (ys : List ℕ) → from + length (text_bytes ls) ≤ most_text → drop at f ≡ entry_bytes from ls ++ ys →
    entries_bytes (entries_from f at (length ls)) ≡ entry_bytes from ls
unfolding entry_bytes entries_from entries_bytes text_bytes
entries-back f at from [] ys h d = refl
entries-back f at from (l ∷ ls) ys h d =
    let n = length-append l (text_bytes ls) in
    let d₁ : drop at f ≡ le16 from ++ (le16 (length l) ++ (entry_bytes (from + length l) ls ++ ys)) = simp append_assoc at d in
    let d₂ = u16-on f at _ _ d₁ in
    let a : at + 2 + 2 ≡ at + message_size = omega arith in
    let d₃ : drop (at + message_size) f ≡ entry_bytes (from + length l) ls ++ ys = rw a at (u16-on f (at + 2) _ _ d₂) in
    rw (
      u16-read f at from _ (omega arith) d₁,
      u16-read f (at + 2) (length l) _ (omega arith) d₂,
      entries-back f (at + message_size) (from + length l) ls ys (omega arith) d₃,
    )

-- ---- where the tables of a piece's file stand

module _ (p : Piece) (k : Counted (counts_in p)) (durations : FitDurations p.durations) (items : FitItems p.items) where
  plain-few : whole_size (plain_extent p) < 4294967296
  unfolding plain_extent
  plain-few = omega (arith, k.events, k.items, k.messages, k.text)

  pub plain-extent : extent_of (plain_file p) ≡ plain_extent p
  unfolding plain_file
  plain-extent = extent-read (plain_file p) (plain_extent p) _ plain-few refl

  pub plain-contents : contents_right (plain_file p) ≡ true
  unfolding plain_file
  plain-contents = contents-right (plain_file p) (plain_extent p) _ plain-few refl (file-size p)

  at-events : drop events_start (plain_file p) ≡ duration_bytes p.durations ++ (plain_bytes p.items ++ (entry_bytes 0 p.labels ++ text_bytes p.labels))
  unfolding plain_file
  at-events = (ten-read (plain_file p) (plain_extent p) _ plain-few refl).rest

  at-items : drop (items_start (plain_extent p)) (plain_file p) ≡ plain_bytes p.items ++ (entry_bytes 0 p.labels ++ text_bytes p.labels)
  unfolding plain_extent counts_in
  at-items = rw (durations-size p.durations) at (drop-on (plain_file p) events_start (duration_bytes p.durations) _ at-events)

  at-messages : drop (messages_start (plain_extent p)) (plain_file p) ≡ entry_bytes 0 p.labels ++ text_bytes p.labels
  unfolding plain_extent counts_in
  at-messages = rw (plain_size p.items) at (drop-on (plain_file p) (items_start (plain_extent p)) (plain_bytes p.items) _ at-items)

  at-text : drop (text_start (plain_extent p)) (plain_file p) ≡ text_bytes p.labels
  unfolding plain_extent counts_in
  at-text = rw (entries-size 0 p.labels) at (drop-on (plain_file p) (messages_start (plain_extent p)) (entry_bytes 0 p.labels) _ at-messages)

  pub plain-durations : durations_at (plain_file p) events_start (plain_extent p).events ≡ p.durations
  unfolding plain_extent counts_in
  plain-durations = durations-read (plain_file p) events_start _ durations at-events

  pub plain-items : folded_from (plain_file p) (items_start (plain_extent p)) (plain_extent p).items ≡ map plain_item p.items
  unfolding plain_extent counts_in
  plain-items = plain-read (plain_file p) (items_start (plain_extent p)) _ items at-items

  pub plain-entries : entries_bytes (entries_from (plain_file p) (messages_start (plain_extent p)) (plain_extent p).messages) ≡ entry_bytes 0 p.labels
  unfolding plain_extent counts_in
  plain-entries = entries-back (plain_file p) (messages_start (plain_extent p)) 0 p.labels _ (omega (arith, k.text)) at-messages

  pub plain-text : part (plain_file p) (text_start (plain_extent p)) (plain_extent p).text ≡ text_bytes p.labels
  unfolding plain_extent counts_in
  plain-text = part-read (plain_file p) (text_start (plain_extent p)) (text_bytes p.labels) [] (at-text ∙ sym (append-nil (text_bytes p.labels)))
