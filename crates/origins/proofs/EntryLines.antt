-- "for a text that we wrote, the line is that of the entry at fault": in a text laid out as Poolmirror writes it, the line of a byte of the file is that of the line
-- which made its entry, refused or not. So of every accepted file and its own text. Assumes nothing.
use Rattle.std.specs.Prelude.{Err}
use mathlib.Core.Path.{◌≡◌, sym, ap, ◌∙◌}
use mathlib.Core.Bool.{false}
use mathlib.Core.List.{List, [], append-nil}
use Prim.Native.Nat.{ℕ, suc, ◌+◌, ◌-◌, ◌*◌, ◌<◌}
use native.Mathlib.Omega.{arith}
use lib.ListN.{length, get_or}
use Rattle.base.specs.Tests.{between}
use Rattle.contents.specs.declared.Fault.{Fault}
use Rattle.contents.specs.declared.Fault.TheVariants.{BadCount, BadEvent, BadMessage}
use Rattle.contents.specs.declared.ItemRule.{ItemRule}
use Rattle.contents.specs.Limits.{event_size, item_size, message_size, longest, most_events, most_items, most_messages, most_text}
use Rattle.contents.specs.Contents.{events_at, items_at, messages_at}
use Rattle.contents.specs.Replies.{fault_row}
use Rattle.contents.proofs.EntryLaws.{event-at, item-at, message-at}
use Rattle.items.specs.Items.{broken_at}
use Rattle.items.specs.Ranged.{blank}
use Rattle.score.specs.Piece.{Piece, decode}
use Rattle.score.specs.File.{Accepted}
use Rattle.score.specs.Encode.{text_bytes, counts_in, Lawful}
use Rattle.score.proofs.EncodingFiles.{decode-lawful}
use Rattle.text.specs.declared.Stage.TheVariants.{Start}
use Rattle.text.specs.declared.TextError.TheVariants.{BadFile}
use Rattle.text.specs.Grammar.{Line, heading}
use Rattle.text.specs.Said.{labels_of, durations_of, items_of, piece_of, piece, said}
use Rattle.text.specs.Written.{text_of, lines, outset, written}
use Rattle.text.specs.Transcripts.{read_answer}
use Rattle.text.proofs.TextLaws.{script_of, Nested, script-written}
use Rattle.text.proofs.RoundTrip.{told-all, nested, read-written}
use Rattle.origins.specs.declared.aims.Table.{Table}
use Rattle.origins.specs.declared.aims.Table.TheVariants.{Events, Items, Messages, Text}
use Rattle.origins.specs.Origins.{count_of, Origin, from, passing, origin_in, origin_of, place_of, place_in_text}
use Rattle.origins.proofs.LineTokens.{Token, token}
use Rattle.origins.proofs.PlaceLaws.{line-newlines, place_rest}
use Rattle.origins.proofs.OriginLaws.{label_over, label-over, placed_in, event-token, item-token, label-token, text-token}
use Rattle.origins.proofs.LabelFaults.{label_right}
use Rattle.origins.proofs.FaultOrigins as shown
use Rattle.origins.proofs.FaultOrigins.{Shown, fault-shown}
use Rattle.origins.proofs.WrittenLines.{lines_to, Brings, Made, made, written-newlines, line-there}
use Rattle.origins.proofs.LineEntries.{EventLine, ItemLine, LabelLine, line-of-event, line-of-item, line-of-label, line-of-text}

-- Line j of these, counted from 0.
abbrev pub line_at : List Line → ℕ → Line
line_at hs j = get_or hs j heading

-- On which line of a text that has these lines each fault is shown, row by row: on that of the line which says the entry at fault.
pub data FaultLine (p : Piece) (hs : List Line) : Fault → ℕ → Type 0 where
  -- Where an event is missing: behind the last line.
  no_event : length p.durations ≡ 0 → FaultLine p hs (BadCount 4) (suc (length hs))
  many_events : most_events < length p.durations → EventLine (get_or p.durations most_events 0) (line_at hs (lines_to Events most_events hs))
      → FaultLine p hs (BadCount 4) (suc (lines_to Events most_events hs))
  many_items : most_items < length p.items → ItemLine (get_or p.items most_items blank) (line_at hs (lines_to Items most_items hs))
      → FaultLine p hs (BadCount 12) (suc (lines_to Items most_items hs))
  many_messages : most_messages < length p.labels → LabelLine (get_or p.labels most_messages []) (line_at hs (lines_to Messages most_messages hs))
      → FaultLine p hs (BadCount 20) (suc (lines_to Messages most_messages hs))
  much_text : most_text < length (text_bytes p.labels) → LabelLine (get_or p.labels (label_over p.labels most_text) []) (line_at hs (lines_to Text most_text hs))
      → FaultLine p hs (BadCount 28) (suc (lines_to Text most_text hs))
  event : (k : ℕ) → k < length p.durations → between 1 longest (get_or p.durations k 0) ≡ false → EventLine (get_or p.durations k 0) (line_at hs (lines_to Events k hs))
      → FaultLine p hs (BadEvent (events_at + event_size * k)) (suc (lines_to Events k hs))
  item : (k : ℕ) → k < length p.items → (r : ItemRule) → ItemLine (get_or p.items k blank) (line_at hs (lines_to Items k hs))
      → FaultLine p hs (broken_at (items_at (counts_in p) + item_size * k) r) (suc (lines_to Items k hs))
  message : (k : ℕ) → k < length p.labels → label_right (get_or p.labels k []) ≡ false → LabelLine (get_or p.labels k []) (line_at hs (lines_to Messages k hs))
      → FaultLine p hs (BadMessage (messages_at (counts_in p) + message_size * k)) (suc (lines_to Messages k hs))

-- ---- what such a text says

-- It has no fault of its own, and says the piece of its lines.
pub nested-says : (ls : List (List ℕ)) (hs : List Line) → Nested ls Start outset hs → said (text_of ls outset hs) ≡ piece (piece_of (script_of hs))
unfolding said
nested-says ls hs n = rw (script-written ls n) (told-all _ _ hs)

-- ---- the line of an entry

token-made : {t : List ℕ} {P : List ℕ → Type 0} {o : Origin} → Token t P o → Made o
token-made (token n b h) = made

module _ (ls : List (List ℕ)) (hs : List Line) (lies : Nested ls Start outset hs) (p : Piece) (says : said (text_of ls outset hs) ≡ piece p) where
  abbrev text : List ℕ
  text = text_of ls outset hs

  entry-made : (k : Table) (n : ℕ) → n < count_of k (counts_in p) → Made (passing k n (placed_in text))
  unfolding count_of counts_in
  entry-made Events n b = token-made (event-token text p says n b)
  entry-made Items n b = token-made (item-token text p says n b)
  entry-made Messages n b = token-made (label-token text p says n b)
  entry-made Text n b = token-made (text-token text p says n b)

  -- Number n of a kind stands on its own line.
  pub entry-line : (k : Table) (n : ℕ) → n < count_of k (counts_in p) → (place_of text (passing k n (placed_in text))).line ≡ suc (lines_to k n hs)
  entry-line k n b = (line-there ls hs lies k n (entry-made k n b)).0

  -- This line is the one with which there are more than n.
  pub entry-brings : (k : Table) (n : ℕ) → n < count_of k (counts_in p) → Brings k n hs (lines_to k n hs)
  entry-brings k n b = (line-there ls hs lies k n (entry-made k n b)).1

  -- It says this entry.
  same-piece : piece_of (script_of hs) ≡ p
  same-piece = let e : piece (piece_of (script_of hs)) ≡ piece p = sym (nested-says ls hs lies) ∙ says in cc

  pub event-says : (n : ℕ) → n < length p.durations → EventLine (get_or p.durations n 0) (line_at hs (lines_to Events n hs))
  unfolding piece_of
  event-says n b = let e : durations_of (script_of hs) ≡ p.durations = ap (λ (q : Piece). q.durations) same-piece in rw e at (line-of-event hs n (rw e b))

  pub item-says : (n : ℕ) → n < length p.items → ItemLine (get_or p.items n blank) (line_at hs (lines_to Items n hs))
  unfolding piece_of
  item-says n b = let e : items_of 0 0 0 (script_of hs) ≡ p.items = ap (λ (q : Piece). q.items) same-piece in rw e at (line-of-item hs n (rw e b))

  same-labels : labels_of (script_of hs) ≡ p.labels
  unfolding piece_of
  same-labels = ap (λ (q : Piece). q.labels) same-piece

  pub label-says : (n : ℕ) → n < length p.labels → LabelLine (get_or p.labels n []) (line_at hs (lines_to Messages n hs))
  label-says n b = rw same-labels at (line-of-label hs n (rw same-labels b))

  pub text_says : (n : ℕ) → n < length (text_bytes p.labels) → LabelLine (get_or p.labels (label_over p.labels n) []) (line_at hs (lines_to Text n hs))
  text_says n b =
      let e : lines_to Text n hs ≡ lines_to Messages (label_over p.labels n) hs = rw same-labels at (line-of-text hs n) in
      rw e (label-says (label_over p.labels n) (label-over p.labels n b).below)

  -- By the file's bytes: an event's first, any of an item, a message entry's first.
  pub line_of_event : (n : ℕ) → n < length p.durations → (place_in_text text (events_at + event_size * n)).line ≡ suc (lines_to Events n hs)
  unfolding place_in_text origin_of origin_in count_of counts_in
  line_of_event n b = let z : 1 + n - 1 ≡ n = omega arith in rw (says, event-at (counts_in p) n b, z) (entry-line Events n b)

  pub item-line : (n at : ℕ) → n < length p.items → at < item_size → (place_in_text text (items_at (counts_in p) + item_size * n + at)).line ≡ suc (lines_to Items n hs)
  unfolding place_in_text origin_of origin_in count_of counts_in
  item-line n at b c = rw (says, item-at (counts_in p) n at b c) (entry-line Items n b)

  pub message-line : (n : ℕ) → n < length p.labels → (place_in_text text (messages_at (counts_in p) + message_size * n)).line ≡ suc (lines_to Messages n hs)
  unfolding place_in_text origin_of origin_in count_of counts_in
  message-line n b = rw (says, message-at (counts_in p) n b) (entry-line Messages n b)

  end_line : (place_of text (from [])).line ≡ suc (length hs)
  end_line = rw (place_rest text text [] (append-nil text), line-newlines text, written-newlines ls lies)

  -- ---- the line of a fault

  shown-line : {x : Fault} {o : Origin} → Shown text p x o → FaultLine p hs x (place_of text o).line
  unfolding count_of counts_in
  shown-line (shown.no_event e k) = rw end_line (no_event e)
  shown-line (shown.many_events b k) = rw (entry-line Events most_events b) (many_events b (event-says most_events b))
  shown-line (shown.many_items b k) = rw (entry-line Items most_items b) (many_items b (item-says most_items b))
  shown-line (shown.many_messages b k) = rw (entry-line Messages most_messages b) (many_messages b (label-says most_messages b))
  shown-line (shown.much_text b k) = rw (entry-line Text most_text b) (much_text b (text_says most_text b))
  shown-line (shown.event n b w h k) = rw (entry-line Events n b) (event n b w (event-says n b))
  shown-line (shown.item n b h l a s r w k) = rw (entry-line Items n b) (item n b r (item-says n b))
  shown-line (shown.message n b w h k) = rw (entry-line Messages n b) (message n b w (label-says n b))

  pub fault-line : (room : ℕ) (x : Fault) → read_answer room text ≡ Err (BadFile x) → FaultLine p hs x (place_in_text text (fault_row x).place).line
  unfolding place_in_text
  fault-line room x e =
      let h = fault-shown room text x e in
      let f : piece h.what ≡ piece p = sym h.says ∙ says in
      let same : h.what ≡ p = cc in
      shown-line (rw same at h.shown)

-- ---- an accepted file and its own text

module _ (f : List ℕ) (accepted : Accepted f) where
  lawful : Lawful (decode f)
  lawful = decode-lawful f accepted

  pub written-event-line : (n : ℕ) → n < length (decode f).durations
      → (place_in_text (written (decode f)) (events_at + event_size * n)).line ≡ suc (lines_to Events n (lines (decode f)))
  unfolding written
  written-event-line n b = line_of_event (decode f).labels (lines (decode f)) (nested (decode f) lawful) (decode f) (read-written (decode f) lawful) n b

  pub written-item-line : (n at : ℕ) → n < length (decode f).items → at < item_size
      → (place_in_text (written (decode f)) (items_at (counts_in (decode f)) + item_size * n + at)).line ≡ suc (lines_to Items n (lines (decode f)))
  unfolding written
  written-item-line n at b c = item-line (decode f).labels (lines (decode f)) (nested (decode f) lawful) (decode f) (read-written (decode f) lawful) n at b c

  pub written-message-line : (n : ℕ) → n < length (decode f).labels
      → (place_in_text (written (decode f)) (messages_at (counts_in (decode f)) + message_size * n)).line ≡ suc (lines_to Messages n (lines (decode f)))
  unfolding written
  written-message-line n b = message-line (decode f).labels (lines (decode f)) (nested (decode f) lawful) (decode f) (read-written (decode f) lawful) n b
