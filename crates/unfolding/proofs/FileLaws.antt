-- The unfolded file says the unfolded score, and is the encoding of that piece: what is written of each table is read there again.
-- Assumes nothing.
use mathlib.Core.Path.{◌≡◌, refl, sym, ap, ◌∙◌}
use mathlib.Core.Bool.{true}
use mathlib.Core.List.{List, [], ◌∷◌, ◌++◌, map, append_assoc}
use Prim.Native.Nat.{ℕ, ◌+◌, ◌*◌, ◌<◌, ◌≤◌}
use native.Mathlib.Omega.{arith}
use lib.ListN.{length, get_or, drop, length-append}
use lib.Seq.{drop-drop}
use Rattle.base.specs.Checks.{fine}
use Rattle.contents.specs.declared.Counts.{Counts}
use Rattle.contents.specs.Limits.{message_size}
use Rattle.contents.specs.Bytes.{u16_at, part}
use Rattle.contents.specs.Contents.{counts_of, events_at, items_at, messages_at, text_at, size_of}
use Rattle.contents.specs.Inner.{Counted}
use Rattle.items.specs.Items.{items_from}
use Rattle.messages.specs.Messages.{label_at, labels_at}
use Rattle.score.specs.Events.{durations_at}
use Rattle.score.specs.Piece.{Piece, decode}
use Rattle.score.specs.File.{checked}
use Rattle.score.specs.Encode.{le16, duration_bytes, item_bytes, encode}
use Rattle.score.proofs.EncodingBytes.{Bytes, empty, bytes-append, bytes-at, le16-bytes, drop-on, u16-on, u16-read}
use Rattle.score.proofs.EncodingReads.{durations-read, items-read, counts-read, contents-rest}
use Rattle.score.proofs.EncodingPieces.{durations-size, items-size, contents-size, durations-bytes, items-bytes, contents-bytes}
use Rattle.score.proofs.EncodingFiles.{encode-decode}
use Rattle.extended.specs.Layout.{extent_of}
use Rattle.extended.specs.Right.{item_of, extended_right}
use Rattle.extended.proofs.RightLaws.{right-nests}
use Rattle.unfolding.specs.Messages.{Entry, entries_bytes}
use Rattle.unfolding.specs.Extended.{extended_of}
use Rattle.unfolding.specs.Unfolded.{page}
use Rattle.unfolding.specs.Pieces.{label_in, labels_in, piece_of}
use Rattle.unfolding.specs.Sizes.{Score, score_of, counts_on, within_limits, file_of}
use Rattle.unfolding.specs.Answers.{unfolded_file}
use Rattle.unfolding.proofs.CountLaws.{page-length}
use Rattle.unfolding.proofs.SelfLaws.{item_in, same-items, same-messages, same-durations}
use Rattle.unfolding.proofs.Fitting.{FitEntries, without_entry, fit_entry, Fit, score-fits}

-- ---- the messages are read again

pub entries-size : (es : List Entry) → length (entries_bytes es) ≡ message_size * length es
unfolding entries_bytes le16
entries-size [] = refl
entries-size (e ∷ es) = omega (arith, entries-size es)

module _ (g : List ℕ) (c : Counts) (text : List ℕ) (stands : drop (text_at c) g ≡ text) where
  label_read : (at : ℕ) (e : Entry) → u16_at g at ≡ e.start → u16_at g (at + 2) ≡ e.size → label_at g c at ≡ label_in text e
  unfolding label_at label_in part
  label_read at e p q = rw (p, q, ← drop-drop e.start (text_at c) g, stands)

  labels-read : (at : ℕ) {es : List Entry} (ys : List ℕ) → FitEntries es → drop at g ≡ entries_bytes es ++ ys → labels_at g c at (length es) ≡ map (label_in text) es
  unfolding labels_at entries_bytes
  labels-read at ys without_entry d = refl
  labels-read at ys (fit_entry {e = e} {es = es} p q r) d =
      let d₁ : drop at g ≡ le16 e.start ++ (le16 e.size ++ (entries_bytes es ++ ys)) = simp append_assoc at d in
      let d₂ = u16-on g at _ _ d₁ in
      let a : at + 2 + 2 ≡ at + message_size = omega arith in
      let d₃ : drop (at + message_size) g ≡ entries_bytes es ++ ys = rw a at (u16-on g (at + 2) _ _ d₂) in
      rw (
        label_read at e (u16-read g at _ _ p d₁) (u16-read g (at + 2) _ _ q d₂),
        labels-read (at + message_size) ys r d₃,
      )

-- ---- the whole file

pub counts-file : (s : Score) → Counted (counts_on s) → counts_of (file_of s) ≡ counts_on s
unfolding file_of
counts-file s k = counts-read (file_of s) (counts_on s) _ k refl

-- Where its bodies stand.
module _ (s : Score) (k : Counted (counts_on s)) where
  at-events : drop events_at (file_of s) ≡ duration_bytes s.durations ++ (item_bytes (page s.items) ++ (entries_bytes s.messages.entries ++ s.messages.text))
  unfolding file_of
  at-events = contents-rest (file_of s) (counts_on s) _ k refl

  pub at-items : drop (items_at (counts_on s)) (file_of s) ≡ item_bytes (page s.items) ++ (entries_bytes s.messages.entries ++ s.messages.text)
  unfolding counts_on
  at-items = rw (durations-size s.durations) at (drop-on (file_of s) events_at (duration_bytes s.durations) _ at-events)

  at-messages : drop (messages_at (counts_on s)) (file_of s) ≡ entries_bytes s.messages.entries ++ s.messages.text
  unfolding counts_on
  at-messages =
      rw (items-size (page s.items), page-length s.items) at (drop-on (file_of s) (items_at (counts_on s)) (item_bytes (page s.items)) _ at-items)

  at-text : drop (text_at (counts_on s)) (file_of s) ≡ s.messages.text
  unfolding counts_on
  at-text = rw (entries-size s.messages.entries) at (drop-on (file_of s) (messages_at (counts_on s)) (entries_bytes s.messages.entries) _ at-messages)

module _ (s : Score) (h : Fit s) where
  durations-file : durations_at (file_of s) events_at (counts_on s).events ≡ s.durations
  unfolding counts_on
  durations-file = durations-read (file_of s) events_at _ h.durations (at-events s h.counted)

  items-file : items_from (file_of s) (items_at (counts_on s)) (counts_on s).items ≡ page s.items
  unfolding counts_on
  items-file = rw (← page-length s.items) (items-read (file_of s) (items_at (counts_on s)) _ h.items (at-items s h.counted))

  labels-file : labels_at (file_of s) (counts_on s) (messages_at (counts_on s)) (counts_on s).messages ≡ labels_in s.messages
  unfolding counts_on labels_in
  labels-file = labels-read (file_of s) (counts_on s) s.messages.text (at-text s h.counted) (messages_at (counts_on s)) _ h.entries (at-messages s h.counted)

  -- The file of a score whose numbers fit says this score.
  pub decode-file : decode (file_of s) ≡ piece_of s
  unfolding decode piece_of
  decode-file = rw (counts-file s h.counted, durations-file, items-file, labels-file)

-- ---- the file has bytes only

entries-bytes : {es : List Entry} → FitEntries es → Bytes (entries_bytes es)
unfolding entries_bytes
entries-bytes without_entry = empty
entries-bytes (fit_entry {e = e} p q r) = bytes-append (le16-bytes e.start p) (bytes-append (le16-bytes e.size q) (entries-bytes r))

pub file-bytes : (s : Score) → Fit s → (i : ℕ) → get_or (file_of s) i 0 < 256
unfolding file_of
file-bytes s h =
    bytes-at (
    bytes-append (contents-bytes (counts_on s) h.counted)
    (bytes-append (durations-bytes h.durations) (bytes-append (items-bytes h.items) (bytes-append (entries-bytes h.entries) h.text)))
    )

-- It is as long as its contents say.
pub file-size : (s : Score) → length (file_of s) ≡ size_of (counts_on s)
unfolding file_of counts_on
file-size s = simp (length-append, contents-size, durations-size, items-size, entries-size, page-length) (omega arith)

-- ---- an extended file that is unfolded

module _ (f : List ℕ) (bytes : (i : ℕ) → get_or f i 0 < 256) (within : within_limits (score_of (extended_of f)) ≡ true) where
  -- The unfolded file says the unfolded score: its durations, its page, and its messages' labels.
  pub unfolded-says : decode (unfolded_file f) ≡ piece_of (score_of (extended_of f))
  unfolding unfolded_file
  unfolded-says = decode-file (score_of (extended_of f)) (score-fits f bytes within)

  pub unfolded-durations : (decode (unfolded_file f)).durations ≡ (score_of (extended_of f)).durations
  unfolding piece_of
  unfolded-durations = ap (λ (p : Piece). p.durations) unfolded-says

  pub unfolded-items : (decode (unfolded_file f)).items ≡ page (score_of (extended_of f)).items
  unfolding piece_of
  unfolded-items = ap (λ (p : Piece). p.items) unfolded-says

  pub unfolded-labels : (decode (unfolded_file f)).labels ≡ labels_in (score_of (extended_of f)).messages
  unfolding piece_of
  unfolded-labels = ap (λ (p : Piece). p.labels) unfolded-says

  -- Where it is accepted, it is the one file of that piece.
  pub unfolded-encodes : checked (unfolded_file f) ≡ fine → unfolded_file f ≡ encode (piece_of (score_of (extended_of f)))
  unfolding unfolded_file
  unfolded-encodes e =
      sym (encode-decode (unfolded_file f) (file-bytes (score_of (extended_of f)) (score-fits f bytes within)) (record { fine = e })) ∙ ap encode unfolded-says

-- ---- with no loop and no curve

-- The unfolded file of a score with no loop or curve says just what the extended one says: its durations, its items as they stand, and its labels.
pub itself-says : (f : List ℕ) → ((i : ℕ) → get_or f i 0 < 256) → within_limits (score_of (extended_of f)) ≡ true → extended_right f ≡ fine →
    ((k : ℕ) → k < (extent_of f).items → (item_of f k).item.kind ≤ 1) →
    decode (unfolded_file f) ≡ record { durations = (extended_of f).durations; items = map item_in (extended_of f).items; labels = labels_in (extended_of f).messages }
unfolding piece_of
itself-says f bytes within right kinds =
    let nests = right-nests f right in
    unfolded-says f bytes within ∙ rw (same-items f nests kinds, same-messages f nests kinds, same-durations f)
