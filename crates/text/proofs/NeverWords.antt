-- Which numbers come from reading a text, and that 20 and 21 never do: every kind and word of its items is the grammar's, and its file's contents are right.
-- Assumes nothing.
use Rattle.std.specs.Prelude.{Result, Err}
use mathlib.Core.Path.{◌≡◌, refl}
use mathlib.Core.Bool.{Bool, true, false}
use mathlib.Core.List.{List, [], ◌∷◌}
use Prim.Native.Nat.{ℕ, suc, ◌-◌, ◌<◌, ◌≤◌}
use native.Mathlib.Omega.{arith}
use lib.Dec.{leb}
use lib.ListN.{length}
use borrow.Author.Tests.{le-leb, ne_eqb}
use Rattle.page.specs.declared.Item.{Item}
use Rattle.base.specs.Tests.{pick, one_of}
use Rattle.base.specs.Checks.{Check, fine, refused}
use Rattle.contents.specs.declared.Fault.{Fault}
use Rattle.contents.specs.declared.ItemRule.TheVariants as rule
use Rattle.contents.specs.declared.Counts.{Counts}
use Rattle.contents.specs.Limits.{longest_score}
use Rattle.contents.specs.Contents.{counts_right}
use Rattle.contents.specs.Replies.{rule_row}
use Rattle.items.specs.declared.Setting.{Setting}
use Rattle.items.specs.Items.{kind_right, synchrony_right, error_right, item_right}
use Rattle.score.specs.Piece.{Piece}
use Rattle.score.specs.Encode.{counts_in, encode}
use Rattle.score.specs.File.{checked}
use Rattle.score.proofs.EncodingPieces.{decode-fielded, encode-decided}
use Rattle.score.proofs.BodyFaults.{Finds, no_fault, some_fault, first_of, first_then, need-of, need-kept, none_left, Told, ToldRule, item_of, Breaks, none-breaks, one-breaks, items-of, counts_of, bodies_of}
use Rattle.text.specs.declared.TextError.{TextError}
use Rattle.text.specs.declared.TextError.TheVariants.{NoRoom}
use Rattle.text.specs.declared.Stage.TheVariants.{Start}
use Rattle.text.specs.Grammar.{Script, script}
use Rattle.text.specs.Said.{items_of, piece_of, Reading, piece, unread, said}
use Rattle.text.specs.Transcripts.{piece_right, judged, fault_at, answered, read_answer}
use Rattle.text.specs.Replies.{transcript_row}
use Rattle.text.proofs.FieldLaws.{of_heading, of_message, of_event, of_part, of_send, of_group, of_close, AllFields, at_end, at_fault, and_then, script-fields, said-piece, said-fielded}

-- The numbers of a text's own answers, of the counts, of the events and messages, and of an item's part and the rules behind it: 0, 2, 4, 6, 8, 16, and 22 to 27.
pub data OfText : ℕ → Type 0 where
  granted : OfText 0
  short_room : OfText 2
  bad_count : OfText 4
  bad_event : OfText 6
  bad_message : OfText 8
  bad_text : OfText 16
  bad_item : {n : ℕ} → 22 ≤ n → n ≤ 27 → OfText n

-- ---- one item: where its kind and words are right, it breaks a rule behind these, or none

module _ (i : Item) (c : Counts) (h : Setting) (left n : ℕ) where
  item-other : kind_right i ≡ true → synchrony_right i ≡ true → error_right i ≡ true → Finds (ToldRule OfText) (item_right i c h left n)
  unfolding rule_row
  item-other kind synchrony error =
      let P = ToldRule OfText in
      item_of P i c h left n
      (need-kept P _ rule.Kind kind)
      (need-kept P _ rule.Synchrony synchrony)
      (need-kept P _ rule.ErrorWord error)
      (need-of P _ rule.Part (bad_item (omega arith) (omega arith)))
      (need-of P _ rule.Delay (bad_item (omega arith) (omega arith)))
      (need-of P _ rule.Event (bad_item (omega arith) (omega arith)))
      (need-of P _ rule.Nesting (bad_item (omega arith) (omega arith)))
      (need-of P _ rule.Message (bad_item (omega arith) (omega arith)))
      (need-of P _ rule.Actions (bad_item (omega arith) (omega arith)))

  action-other : i.kind ≡ 0 → i.synchrony ≡ 0 → i.error ≡ 0 → Finds (ToldRule OfText) (item_right i c h left n)
  unfolding synchrony_right error_right pick
  action-other k w v = item-other (rw k) (rw (k, w)) (rw (k, v))

  group-other : i.kind ≡ 1 → i.synchrony < 2 → i.error < 4 → Finds (ToldRule OfText) (item_right i c h left n)
  unfolding synchrony_right error_right pick
  group-other k w v = item-other (rw k) (rw (k, le-leb i.synchrony 1 (omega arith))) (rw (k, le-leb i.error 3 (omega arith)))

-- ---- the items of a text

lines-break : (c : Counts) (e p depth : ℕ) {s : Script} → AllFields s → Breaks OfText c (items_of e p depth s)
unfolding items_of
lines-break c e p depth at_end = none-breaks
lines-break c e p depth at_fault = none-breaks
lines-break c e p depth (and_then of_heading r) = lines-break c e p depth r
lines-break c e p depth (and_then of_message r) = lines-break c e p depth r
lines-break c e p depth (and_then (of_event g) r) = lines-break c (suc e) p depth r
lines-break c e p depth (and_then (of_part {p = q} g) r) = lines-break c e q depth r
lines-break c e p depth (and_then (of_send d n) r) = one-breaks (λ h left m. action-other _ c h left m refl refl refl) (lines-break c e p depth r)
lines-break c e p depth (and_then (of_group d w v) r) = one-breaks (λ h left m. group-other _ c h left m refl w v) (lines-break c e p (suc depth) r)
lines-break c e p depth (and_then of_close r) = lines-break c e p (depth - 1) r

piece-breaks : (c : Counts) (s : Script) → AllFields s → Breaks OfText c (piece_of s).items
unfolding piece_of
piece-breaks c s a = lines-break c 0 0 0 a

said-breaks : (t : List ℕ) (p : Piece) → said t ≡ piece p → (c : Counts) → Breaks OfText c p.items
unfolding script
said-breaks t p e c = rw (said-piece t p e) at (piece-breaks c (script Start t) (script-fields (suc (length t)) Start t))

-- ---- the file of a text: its contents are right, and it says what the text says

file-finds : (t : List ℕ) (p : Piece) → said t ≡ piece p → counts_right (counts_in p) ≡ fine → Finds (Told OfText) (checked (encode p))
file-finds t p e r =
    let c = counts_in p in
    rw (encode-decided p r)
    (bodies_of OfText bad_event bad_message (encode p) c (rw (decode-fielded p (said-fielded t p e r)) (items-of OfText c (said-breaks t p e c))))

right-finds : (t : List ℕ) (p : Piece) → said t ≡ piece p → Finds (Told OfText) (piece_right p)
unfolding piece_right
right-finds t p e =
    let P = Told OfText in
    first_then P _ _ (counts_of OfText bad_count (counts_in p)) (λ r. first_of P _ _ (file-finds t p e r) (none_left P))

-- ---- the numbers that a call to read a text tells

judged-number : (made : List ℕ) (v : Check Fault) → Finds (Told OfText) v → OfText (transcript_row (judged made v)).number
unfolding judged transcript_row
judged-number made fine no_fault = granted
judged-number made (refused x) (some_fault p) = p

answered-number : (t : List ℕ) (r : Reading) → said t ≡ r → OfText (transcript_row (answered t r)).number
unfolding answered fault_at transcript_row
answered-number t (piece p) e = judged-number (encode p) (piece_right p) (right-finds t p e)
answered-number t (unread at) e = bad_text

room-number : (b : Bool) (r : Result ℕ TextError) → OfText (transcript_row r).number → OfText (transcript_row (pick b r (Err NoRoom))).number
unfolding pick transcript_row
room-number true r h = h
room-number false r h = short_room

-- 0, 2, 4, 6, 8, 16 and 22 to 27 are all the numbers that it tells.
pub only-numbers : (room : ℕ) (t : List ℕ) → OfText (transcript_row (read_answer room t)).number
unfolding read_answer
only-numbers room t = room-number (leb longest_score room) (answered t (said t)) (answered-number t (said t) refl)

not-words : {n : ℕ} → OfText n → one_of (20 ∷ 21 ∷ []) n ≡ false
unfolding pick
not-words granted = refl
not-words short_room = refl
not-words bad_count = refl
not-words bad_event = refl
not-words bad_message = refl
not-words bad_text = refl
not-words (bad_item {n = n} p q) = rw (ne_eqb n 20 (λ e. omega arith), ne_eqb n 21 (λ e. omega arith))

not-contents : {n : ℕ} → OfText n → one_of (3 ∷ 5 ∷ []) n ≡ false
unfolding pick
not-contents granted = refl
not-contents short_room = refl
not-contents bad_count = refl
not-contents bad_event = refl
not-contents bad_message = refl
not-contents bad_text = refl
not-contents (bad_item {n = n} p q) = rw (ne_eqb n 3 (λ e. omega arith), ne_eqb n 5 (λ e. omega arith))

-- A text's items have a kind, and words that go with it: 20 and 21 never come from it.
pub never-words : (room : ℕ) (t : List ℕ) → one_of (20 ∷ 21 ∷ []) (transcript_row (read_answer room t)).number ≡ false
never-words room t = not-words (only-numbers room t)

-- Nor do 3 and 5: its file has all its contents, and every offset in place.
pub never-contents : (room : ℕ) (t : List ℕ) → one_of (3 ∷ 5 ∷ []) (transcript_row (read_answer room t)).number ≡ false
never-contents room t = not-contents (only-numbers room t)
