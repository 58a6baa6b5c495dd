-- "So every score has one file", from the piece: a lawful piece's file is accepted and says this piece. By what stands at each of the file's bodies, wherever its
-- numbers fit their fields.
-- Assumes nothing.
use mathlib.Core.Path.{◌≡◌, refl, sym, ap, ◌∙◌}
use mathlib.Core.Bool.{true}
use mathlib.Core.List.{List, [], ◌∷◌, ◌++◌}
use Prim.Native.Nat.{ℕ, ◌+◌, ◌*◌, ◌<◌, ◌≤◌}
use native.Mathlib.Omega.{arith}
use lib.ListN.{length, get_or, drop, length-append}
use lib.Dec.{leb}
use borrow.Author.Tests.{eq-eqb, le-leb}
use Rattle.page.specs.declared.Item.{Item}
use Rattle.base.specs.Checks.{Check, fine, refused, need, first_fault}
use Rattle.base.proofs.TestLaws.{every-head, every_rest, between_in, between-high}
use Rattle.contents.specs.declared.Fault.{Fault}
use Rattle.contents.specs.declared.Counts.{Counts}
use Rattle.contents.specs.Limits.{contents_size, event_size, item_size, message_size, longest_label, most_text}
use Rattle.contents.specs.Contents.{counts_of, counts_right, offsets_right, events_at, items_at, messages_at, text_at, size_of}
use Rattle.contents.specs.Inner.{Counted}
use Rattle.items.specs.Items.{items_from}
use Rattle.messages.specs.Messages.{readable, labels_at, messages_right}
use Rattle.messages.proofs.LabelLaws.{label-byte-high}
use Rattle.score.specs.Events.{durations_at}
use Rattle.score.specs.Piece.{Piece, decode}
use Rattle.score.specs.File.{bodies_right, checked, Accepted}
use Rattle.score.specs.Encode.{le16, le32, contents_bytes, duration_bytes, item_bytes, entry_bytes, text_bytes, counts_in, encode, labels_right, Lawful}
use Rattle.contents.proofs.ContentsLaws.{counts-held}
use Rattle.score.proofs.EncodingBytes.{Bytes, empty, byte, bytes-append, bytes-at, le16-bytes, le32-bytes, le32-length, drop-on}
use Rattle.score.proofs.Fielded.{FitItems, no_item, fit_item, FitDurations, no_duration, fit_duration, Fielded, lawful-fielded}
use Rattle.score.proofs.EncodingFiles.{decode-lawful, encode-decode}
use Rattle.score.proofs.EncodingReads.{Entries, offsets_in, durations-read, items-read, labels-read, messages-right, counts-read, offsets-read, contents-rest}

-- ---- how many bytes are written

pub durations-size : (ds : List ℕ) → length (duration_bytes ds) ≡ event_size * length ds
unfolding duration_bytes
durations-size [] = refl
durations-size (d ∷ ds) = omega (arith, length-append (le32 d) (duration_bytes ds), le32-length d, durations-size ds)

pub items-size : (is : List Item) → length (item_bytes is) ≡ item_size * length is
unfolding item_bytes le32 le16
items-size [] = refl
items-size (i ∷ is) = omega (arith, items-size is)

pub entries-size : (from : ℕ) (ls : List (List ℕ)) → length (entry_bytes from ls) ≡ message_size * length ls
unfolding entry_bytes le16
entries-size from [] = refl
entries-size from (l ∷ ls) = omega (arith, entries-size (from + length l) ls)

pub contents-size : (c : Counts) → length (contents_bytes c) ≡ contents_size
unfolding contents_bytes le32 le16
contents-size c = refl

pub size-encode : (p : Piece) → length (encode p) ≡ size_of (counts_in p)
unfolding encode counts_in
size-encode p = simp (length-append, contents-size, durations-size, items-size, entries-size) (omega arith)

-- ---- where the bodies of a piece's file stand, if its numbers fit their fields

module _ (p : Piece) (l : Fielded p) where
  counted : Counted (counts_in p)
  counted = counts-held (counts_in p) l.counts

  counts-encode : counts_of (encode p) ≡ counts_in p
  unfolding encode
  counts-encode = counts-read (encode p) (counts_in p) _ counted refl

  at-events : drop events_at (encode p) ≡ duration_bytes p.durations ++ (item_bytes p.items ++ (entry_bytes 0 p.labels ++ text_bytes p.labels))
  unfolding encode
  at-events = contents-rest (encode p) (counts_in p) _ counted refl

  at-items : drop (items_at (counts_in p)) (encode p) ≡ item_bytes p.items ++ (entry_bytes 0 p.labels ++ text_bytes p.labels)
  unfolding counts_in
  at-items = rw (durations-size p.durations) at (drop-on (encode p) events_at (duration_bytes p.durations) _ at-events)

  at-messages : drop (messages_at (counts_in p)) (encode p) ≡ entry_bytes 0 p.labels ++ text_bytes p.labels
  unfolding counts_in
  at-messages = rw (items-size p.items) at (drop-on (encode p) (items_at (counts_in p)) (item_bytes p.items) _ at-items)

  at-text : drop (text_at (counts_in p)) (encode p) ≡ text_bytes p.labels
  unfolding counts_in
  at-text = rw (entries-size 0 p.labels) at (drop-on (encode p) (messages_at (counts_in p)) (entry_bytes 0 p.labels) _ at-messages)

  pub entries : Entries (encode p) (counts_in p) (messages_at (counts_in p)) 0 p.labels (text_bytes p.labels)
  unfolding counts_in
  entries =
      let a : text_at (counts_in p) + 0 ≡ text_at (counts_in p) = omega arith in
      record { few = counted.text; whole = omega arith; entry = at-messages; text = rw a at-text }

  items-encode : items_from (encode p) (items_at (counts_in p)) (counts_in p).items ≡ p.items
  unfolding counts_in
  items-encode = items-read (encode p) (items_at (counts_in p)) _ l.items at-items

  labels-encode : labels_at (encode p) (counts_in p) (messages_at (counts_in p)) (counts_in p).messages ≡ p.labels
  unfolding counts_in
  labels-encode = labels-read (encode p) (counts_in p) (messages_at (counts_in p)) 0 p.labels _ entries

  messages-encode : labels_right p.labels ≡ true → messages_right (encode p) (counts_in p) (messages_at (counts_in p)) (counts_in p).messages 0 ≡ fine
  unfolding counts_in
  messages-encode right = messages-right (encode p) (counts_in p) (messages_at (counts_in p)) 0 p.labels _ right entries

  durations-encode : durations_at (encode p) events_at (counts_in p).events ≡ p.durations
  unfolding counts_in
  durations-encode = durations-read (encode p) events_at _ l.durations at-events

-- The file of a piece whose numbers fit their fields says this piece, lawful or not.
pub decode-fielded : (p : Piece) → Fielded p → decode (encode p) ≡ p
unfolding decode
decode-fielded p l = rw (counts-encode p l, durations-encode p l, items-encode p l, labels-encode p l)

-- Where that file is accepted, the piece is lawful.
pub fielded-lawful : (p : Piece) → Fielded p → Accepted (encode p) → Lawful p
fielded-lawful p l a = rw (decode-fielded p l) at (decode-lawful (encode p) a)

-- ---- "So every score has one file"

-- A lawful piece's file says this piece.
pub decode-encode : (p : Piece) → Lawful p → decode (encode p) ≡ p
decode-encode p l = decode-fielded p (lawful-fielded p l)

bodies-encode : (p : Piece) → Lawful p → bodies_right (encode p) (counts_in p) ≡ fine
unfolding bodies_right first_fault
bodies-encode p l = rw (decode-encode p l, l.durations, l.items, messages-encode p (lawful-fielded p l) l.labels)

pub offsets-right : (c : Counts) → offsets_right (offsets_in c) c (size_of c) ≡ fine
unfolding offsets_right first_fault need
offsets-right c = rw (eq-eqb (items_at c) _ refl, eq-eqb (messages_at c) _ refl, eq-eqb (text_at c) _ refl, eq-eqb (size_of c) _ refl)

pub counts-right : (c : Counts) → Counted c → counts_right c ≡ fine
unfolding counts_right first_fault need
counts-right c k = rw (between_in _ _ _ k.some k.events, le-leb _ _ k.items, le-leb _ _ k.messages, le-leb _ _ k.text)

pub last-told : (v : Check Fault) → first_fault (v ∷ []) ≡ v
unfolding first_fault
last-told fine = refl
last-told (refused x) = refl

-- Where a file's contents say right counts and its size is theirs, the file check comes down to the bodies.
pub bodies-decide : (f : List ℕ) (c : Counts) (ys : List ℕ) → Counted c → f ≡ contents_bytes c ++ ys → length f ≡ size_of c → checked f ≡ bodies_right f c
unfolding checked first_fault need
bodies-decide f c ys k e size =
    let long : leb contents_size (length f) ≡ true = le-leb contents_size (length f) (omega arith) in
    rw (counts-read f c ys k e, offsets-read f c ys k e, long, size, counts-right c k, offsets-right c) (last-told (bodies_right f c))

-- So of the file of a piece with right counts, whatever else is wrong with it.
pub encode-decided : (p : Piece) → counts_right (counts_in p) ≡ fine → checked (encode p) ≡ bodies_right (encode p) (counts_in p)
unfolding encode
encode-decided p e = bodies-decide (encode p) (counts_in p) _ (counts-held (counts_in p) e) refl (size-encode p)

encode-fine : (p : Piece) → Lawful p → checked (encode p) ≡ fine
encode-fine p l = encode-decided p l.counts ∙ bodies-encode p l

-- A lawful piece's file is accepted.
pub encode-accepted : (p : Piece) → Lawful p → Accepted (encode p)
encode-accepted p l = record { fine = encode-fine p l }

-- ---- a lawful piece's file has bytes only

pub durations-bytes : {ds : List ℕ} → FitDurations ds → Bytes (duration_bytes ds)
unfolding duration_bytes
durations-bytes no_duration = empty
durations-bytes (fit_duration {d = d} p r) = bytes-append (le32-bytes d p) (durations-bytes r)

pub items-bytes : {is : List Item} → FitItems is → Bytes (item_bytes is)
unfolding item_bytes
items-bytes no_item = empty
items-bytes (fit_item {i = i} r rs) =
    let delay = le32-bytes i.delay.0 r.delay in
    let event = le16-bytes i.event r.event in
    let last = le16-bytes i.last r.last in
    byte r.kind (byte r.synchrony (byte r.error (byte r.part (bytes-append delay (bytes-append event (bytes-append last (items-bytes rs)))))))

entries-bytes : (from : ℕ) (ls : List (List ℕ)) → labels_right ls ≡ true → from + length (text_bytes ls) ≤ most_text → Bytes (entry_bytes from ls)
unfolding labels_right entry_bytes text_bytes
entries-bytes from [] e q = empty
entries-bytes from (l ∷ ls) e q =
    let small = between-high 1 longest_label (length l) (every-head _ _ e) in
    let room = length-append l (text_bytes ls) in
    bytes-append (le16-bytes from (omega arith))
    (bytes-append (le16-bytes (length l) (omega arith)) (entries-bytes (from + length l) ls (every-head _ _ (every_rest _ _ (every_rest _ _ e))) (omega arith)))

label-bytes : (l : List ℕ) → readable l ≡ true → Bytes l
unfolding readable
label-bytes [] e = empty
label-bytes (b ∷ l) e =
    let small : b < 256 = omega (arith, label-byte-high b (every-head _ _ e)) in
    byte small (label-bytes l (every-head _ _ (every_rest _ _ e)))

text-bytes : (ls : List (List ℕ)) → labels_right ls ≡ true → Bytes (text_bytes ls)
unfolding labels_right text_bytes
text-bytes [] e = empty
text-bytes (l ∷ ls) e =
    let e₁ = every_rest _ _ e in
    bytes-append (label-bytes l (every-head _ _ e₁)) (text-bytes ls (every-head _ _ (every_rest _ _ e₁)))

pub contents-bytes : (c : Counts) → Counted c → Bytes (contents_bytes c)
unfolding contents_bytes
contents-bytes c k =
    bytes-append (le32-bytes events_at (omega arith))
    (bytes-append (le32-bytes c.events (omega arith))
    (bytes-append (le32-bytes (items_at c) (omega arith))
    (bytes-append (le32-bytes c.items (omega arith))
    (bytes-append (le32-bytes (messages_at c) (omega arith))
    (bytes-append (le32-bytes c.messages (omega arith))
    (bytes-append (le32-bytes (text_at c) (omega arith)) (le32-bytes c.text (omega arith))))))))

-- A lawful piece's file has bytes only.
pub encode-bytes : (p : Piece) → Lawful p → (i : ℕ) → get_or (encode p) i 0 < 256
unfolding encode counts_in
encode-bytes p l =
    let n = lawful-fielded p l in
    let k = counted p n in
    bytes-at (
    bytes-append (contents-bytes (counts_in p) k)
    (bytes-append (durations-bytes n.durations)
    (bytes-append (items-bytes n.items)
    (bytes-append (entries-bytes 0 p.labels l.labels (omega (arith, k.text))) (text-bytes p.labels l.labels))))
    )

-- ---- "So every score has one file": one file for a piece, and one piece for a file

pub one-file : (f g : List ℕ) → ((i : ℕ) → get_or f i 0 < 256) → ((i : ℕ) → get_or g i 0 < 256) → Accepted f → Accepted g → decode f ≡ decode g → f ≡ g
one-file f g bf bg p q e = sym (encode-decode f bf p) ∙ ap encode e ∙ encode-decode g bg q

pub one_piece : (p q : Piece) → Lawful p → Lawful q → encode p ≡ encode q → p ≡ q
one_piece p q l m e = sym (decode-encode p l) ∙ ap decode e ∙ decode-encode q m
