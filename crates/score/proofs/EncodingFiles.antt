-- "So every score has one file", from the file: an accepted file holds a lawful piece, and is what is written of it. By its parts, one after the other.
-- Assumes nothing.
use mathlib.Core.Path.{◌≡◌, refl, sym, ap, ◌∙◌}
use mathlib.Core.Bool.{true}
use mathlib.Core.List.{List, ◌++◌}
use Prim.Native.Nat.{ℕ, zero, suc, ◌+◌, ◌-◌, ◌*◌, ◌<◌, ◌≤◌}
use native.Mathlib.Omega.{arith}
use lib.ListN.{length, get_or}
use lib.Seq.{take_all}
use borrow.Author.Tests.{eqb-true}
use Rattle.base.specs.Tests.{every}
use Rattle.base.specs.Checks.{fine}
use Rattle.base.proofs.CheckLaws.{need-fine}
use Rattle.contents.specs.declared.Fault.TheVariants.{TextLeft}
use Rattle.contents.specs.declared.Counts.{Counts}
use Rattle.contents.specs.Limits.{event_size, item_size, message_size}
use Rattle.contents.specs.Bytes.{u16_at, part}
use Rattle.contents.specs.Contents.{offsets_of, counts_of, events_at, items_at, messages_at, text_at, size_of}
use Rattle.items.specs.Items.{item_at, items_from}
use Rattle.messages.specs.Messages.{readable, label_at, labels_at, messages_right}
use Rattle.score.specs.Events.{durations_at}
use Rattle.score.specs.Piece.{decode}
use Rattle.score.specs.File.{Accepted}
use Rattle.score.specs.Encode.{le16, le32, contents_bytes, duration_bytes, item_bytes, entry_bytes, text_bytes, counts_in, encode, labels_right, Lawful}
use Rattle.contents.proofs.PartLaws.{part_length}
use Rattle.contents.proofs.ContentsLaws.{RightOffsets, offsets-held}
use Rattle.items.proofs.Decoded.{items-length}
use Rattle.messages.proofs.Decoded.{labels_length}
use Rattle.messages.proofs.Entries.{Entry, entry_first, entries-rest}
use Rattle.score.proofs.EncodingBytes.{part-add, part_none, part-four, le16-part, le32-part}
use Rattle.score.proofs.Decoded.{durations-length}
use Rattle.score.proofs.Accepted.{file-long, file-counts, file-offsets, file-sized, file-events, file-items, file-messages}

-- ---- a file in parts

contents-parts : (f : List ℕ) → part f 0 32 ≡ part f 0 4 ++ (part f 4 4 ++ (part f 8 4 ++ (part f 12 4 ++ (part f 16 4 ++ (part f 20 4 ++ (part f 24 4 ++ part f 28 4))))))
contents-parts f = part-add f 0 4 28 ∙ rw (part-add f 4 4 24, part-add f 8 4 20, part-add f 12 4 16, part-add f 16 4 12, part-add f 20 4 8, part-add f 24 4 4)

part-whole : (f : List ℕ) (n : ℕ) → length f ≡ n → part f 0 n ≡ f
unfolding part
part-whole f n e = take_all n f (omega arith)

file-parts : (f : List ℕ) (c : Counts) → length f ≡ size_of c
    → part f 0 32 ++ (part f events_at (event_size * c.events) ++ (part f (items_at c) (item_size * c.items) ++ (part f (messages_at c) (message_size * c.messages) ++ part f (text_at c) c.text))) ≡ f
file-parts f c e =
    let messages = message_size * c.messages + c.text in
    let items = item_size * c.items + messages in
    let events = event_size * c.events + items in
    sym (
    part-add f 0 32 events
    ∙ rw (part-add f events_at (event_size * c.events) items, part-add f (items_at c) (item_size * c.items) messages, part-add f (messages_at c) (message_size * c.messages) c.text)
    )
    ∙ part-whole f (32 + events) (omega arith)

-- ---- the labels of right entries: the entries and labels from the entry at the byte at on, which starts at from

module _ (f : List ℕ) (c : Counts) (fits : size_of c ≤ length f) where
  label-part : (at from : ℕ) → Entry f c at from → label_at f c at ≡ part f (text_at c + from) (u16_at f (at + 2))
  unfolding label_at
  label-part at from r = rw r.start

  label-length : (at from : ℕ) → Entry f c at from → length (label_at f c at) ≡ u16_at f (at + 2)
  label-length at from r =
      let w : from + u16_at f (at + 2) ≤ c.text = r.fits in
      rw (label-part at from r) (part_length f (text_at c + from) (u16_at f (at + 2)) (omega arith))

  text-part : (count at from : ℕ) → messages_right f c at count from ≡ fine
      → (from ≤ c.text) × (text_bytes (labels_at f c at count) ≡ part f (text_at c + from) (c.text - from))
  unfolding messages_right text_bytes labels_at
  text-part zero at from e =
      let s : from ≡ c.text = eqb-true _ _ (need-fine _ TextLeft e) in
      let z : c.text - from ≡ 0 = omega arith in
      (omega arith, rw z (sym (part_none f _)))
  text-part (suc count) at from e =
      let r = entry_first f c at from count e in
      let n = u16_at f (at + 2) in
      let l : from + n ≤ c.text = r.fits in
      let rest = text-part count (at + message_size) (from + n) (entries-rest f c at from count e) in
      let a : text_at c + (from + n) ≡ text_at c + from + n = omega arith in
      let b : c.text - from ≡ n + (c.text - (from + n)) = omega arith in
      (omega arith, rw (label-part at from r, rest.1, a, b) (sym (part-add f (text_at c + from) n _)))

  labels-right : (count at from : ℕ) → messages_right f c at count from ≡ fine → labels_right (labels_at f c at count) ≡ true
  unfolding labels_right labels_at every
  labels-right zero at from e = refl
  labels-right (suc count) at from e =
      let r = entry_first f c at from count e in
      let read : readable (label_at f c at) ≡ true = rw (label-part at from r) r.read in
      rw (label-length at from r, r.size, read, labels-right count (at + message_size) _ (entries-rest f c at from count e))

  module _ (bytes : (i : ℕ) → get_or f i 0 < 256) where
    entries-part : (count at from : ℕ) → messages_right f c at count from ≡ fine → at + message_size * count ≤ length f → entry_bytes from (labels_at f c at count) ≡ part f at (message_size * count)
    unfolding entry_bytes labels_at
    entries-part zero at from e p = sym (part_none f at)
    entries-part (suc count) at from e p =
        let r = entry_first f c at from count e in
        let s : message_size * suc count ≡ 2 + (2 + message_size * count) = omega arith in
        let a : at + 2 + 2 ≡ at + message_size = omega arith in
        let start : le16 from ≡ part f at 2 = ap le16 (sym r.start) ∙ le16-part f bytes at (omega arith) in
        rw (
          label-length at from r,
          start,
          le16-part f bytes (at + 2) (omega arith),
          entries-part count (at + message_size) _ (entries-rest f c at from count e) (omega arith),
          s,
          part-add f at 2 _,
          part-add f (at + 2) 2 _,
          a,
        )

-- ---- the other bodies, and the contents

module _ (f : List ℕ) (bytes : (i : ℕ) → get_or f i 0 < 256) where
  durations-part : (count at : ℕ) → at + event_size * count ≤ length f → duration_bytes (durations_at f at count) ≡ part f at (event_size * count)
  unfolding duration_bytes durations_at
  durations-part zero at p = sym (part_none f at)
  durations-part (suc count) at p =
      let s : event_size * suc count ≡ 4 + event_size * count = omega arith in
      rw (s, le32-part f bytes at (omega arith), durations-part count (at + event_size) (omega arith)) (sym (part-add f at 4 (event_size * count)))

  items-part : (count at : ℕ) → at + item_size * count ≤ length f → item_bytes (items_from f at count) ≡ part f at (item_size * count)
  unfolding item_bytes items_from item_at
  items-part zero at p = sym (part_none f at)
  items-part (suc count) at p =
      let s : item_size * suc count ≡ 4 + (4 + (2 + (2 + item_size * count))) = omega arith in
      let a : at + 4 + 4 ≡ at + 8 = omega arith in
      let b : at + 8 + 2 ≡ at + 10 = omega arith in
      let d : at + 10 + 2 ≡ at + item_size = omega arith in
      rw (
        s,
        part-add f at 4 _,
        part-four f at (omega arith),
        part-add f (at + 4) 4 _,
        a,
        part-add f (at + 8) 2 _,
        b,
        part-add f (at + 10) 2 _,
        d,
        le32-part f bytes (at + 4) (omega arith),
        le16-part f bytes (at + 8) (omega arith),
        le16-part f bytes (at + 10) (omega arith),
        items-part count (at + item_size) (omega arith),
      )

  contents-part : 32 ≤ length f → RightOffsets (offsets_of f) (counts_of f) (length f) → contents_bytes (counts_of f) ≡ part f 0 32
  unfolding contents_bytes offsets_of counts_of
  contents-part p o =
      let events : le32 events_at ≡ part f 0 4 = ap le32 (sym o.events) ∙ le32-part f bytes 0 (omega arith) in
      let items : le32 (items_at (counts_of f)) ≡ part f 8 4 = ap le32 (sym o.items) ∙ le32-part f bytes 8 (omega arith) in
      let messages : le32 (messages_at (counts_of f)) ≡ part f 16 4 = ap le32 (sym o.messages) ∙ le32-part f bytes 16 (omega arith) in
      let text : le32 (text_at (counts_of f)) ≡ part f 24 4 = ap le32 (sym o.text) ∙ le32-part f bytes 24 (omega arith) in
      rw (
        events,
        items,
        messages,
        text,
        le32-part f bytes 4 (omega arith),
        le32-part f bytes 12 (omega arith),
        le32-part f bytes 20 (omega arith),
        le32-part f bytes 28 (omega arith),
      )
      (sym (contents-parts f))

-- ---- an accepted file

module _ (f : List ℕ) (e : Accepted f) where
  text-whole : text_bytes (decode f).labels ≡ part f (text_at (counts_of f)) (counts_of f).text
  unfolding decode
  text-whole =
      let c = counts_of f in
      let w = (file-sized f e).whole in
      let a : text_at c + 0 ≡ text_at c = omega arith in
      let b : c.text - 0 ≡ c.text = omega arith in
      (text-part f c (omega arith) c.messages (messages_at c) 0 (file-messages f e)).1 ∙ rw (a, b)

  labels-whole : labels_right (decode f).labels ≡ true
  unfolding decode
  labels-whole =
      let c = counts_of f in
      let w = (file-sized f e).whole in
      labels-right f c (omega arith) c.messages (messages_at c) 0 (file-messages f e)

  counts-decode : counts_in (decode f) ≡ counts_of f
  unfolding counts_in decode
  counts-decode =
      let c = counts_of f in
      let w = (file-sized f e).whole in
      let text : length (text_bytes (labels_at f c (messages_at c) c.messages)) ≡ c.text = ap length text-whole ∙ part_length f (text_at c) c.text (omega arith) in
      rw (durations-length f events_at c.events, items-length f (items_at c) c.items, labels_length f c (messages_at c) c.messages, text)

-- ---- "So every score has one file"

-- An accepted file holds a lawful piece.
pub decode-lawful : (f : List ℕ) → Accepted f → Lawful (decode f)
decode-lawful f e =
    record {
      counts = rw (counts-decode f e) (file-counts f e);
      durations = file-events f e;
      items = rw (counts-decode f e) (file-items f e);
      labels = labels-whole f e;
    }

-- An accepted file is what is written of its piece.
pub encode-decode : (f : List ℕ) → ((i : ℕ) → get_or f i 0 < 256) → Accepted f → encode (decode f) ≡ f
unfolding encode decode
encode-decode f bytes e =
    let c = counts_of f in
    let w = (file-sized f e).whole in
    let contents : contents_bytes (counts_in (decode f)) ≡ part f 0 32 = rw (counts-decode f e) (contents-part f bytes (file-long f e) (offsets-held _ _ _ (file-offsets f e))) in
    rw (
      contents,
      durations-part f bytes c.events events_at (omega arith),
      items-part f bytes c.items (items_at c) (omega arith),
      entries-part f c (omega arith) bytes c.messages (messages_at c) 0 (file-messages f e) (omega arith),
      text-whole f e,
    )
    (file-parts f c w)
