-- "Reading what was written gives the same bytes for every accepted file; the written text is never refused."
-- The lines of a lawful piece are read back as they stand, and say the piece. Assumes nothing.
use Rattle.std.specs.Prelude.{Ok}
use mathlib.Core.Path.{◌≡◌, refl, ap, ◌∙◌}
use mathlib.Core.Bool.{true}
use mathlib.Core.List.{List, [], ◌∷◌, ◌++◌, append-nil}
use Prim.Native.Nat.{ℕ, zero, suc, ◌+◌, ◌<◌, ◌≤◌}
use native.Mathlib.Omega.{arith}
use lib.ListN.{length, get_or}
use borrow.Author.Tests.{ne_eqb, le-leb, lt-ltb}
use Rattle.base.specs.Tests.{pick}
use Rattle.base.specs.Checks.{fine, first_fault}
use Rattle.base.proofs.TestLaws.{every-head, every_rest, between-high}
use Rattle.base.proofs.CheckLaws.{first_head, first_rest, first_holds}
use Rattle.ascii.specs.Words.{newline}
use Rattle.contents.specs.declared.Fault.TheVariants.{BadEvent}
use Rattle.contents.specs.Limits.{event_size, longest, longest_score}
use Rattle.contents.specs.Contents.{events_at}
use Rattle.contents.specs.Inner.{Counted}
use Rattle.contents.proofs.ContentsLaws.{counts-held}
use Rattle.tokens.specs.Bytes.{is_plain, All, none, one}
use Rattle.tokens.specs.Beats.{field}
use Rattle.items.proofs.Walked.{table-walked}
use Rattle.messages.specs.Messages.{label_byte, readable}
use Rattle.messages.proofs.LabelLaws.{label-byte-low}
use Rattle.score.specs.Events.{events_right}
use Rattle.score.specs.Piece.{Piece, decode}
use Rattle.score.specs.File.{Accepted}
use Rattle.score.specs.Encode.{counts_in, encode, labels_right, Lawful}
use Rattle.score.proofs.EncodingFiles.{decode-lawful, encode-decode}
use Rattle.score.proofs.EncodingPieces.{encode-accepted}
use Rattle.text.specs.declared.Stage.TheVariants.{Start, Listing}
use Rattle.text.specs.Words.{any_number}
use Rattle.text.specs.Grammar.{Line, further, after, script}
use Rattle.text.specs.Said.{labels_of, durations_of, items_of, piece_of, piece, told, said}
use Rattle.text.specs.Written.{Spot, behind_line, page_lines, message_lines, lines, outset, written}
use Rattle.text.specs.Transcripts.{piece_right, judged, answered, file_of, read_answer}
use Rattle.text.proofs.LineLaws.{may_head, may_list}
use Rattle.text.proofs.TextLaws.{script_of, Nested, goes, script-written}
use Rattle.text.proofs.PageLaws.{Page, in_field, before_events, Says, page-says, page-walked}

-- ---- labels and durations that can be written

plain_byte : (b : ℕ) → label_byte b ≡ true → is_plain b ≡ true
plain_byte b e = rw (ne_eqb b newline (λ q. omega (arith, label-byte-low b e)))

plain_label : (l : List ℕ) → readable l ≡ true → All is_plain l
unfolding readable
plain_label [] e = none
plain_label (b ∷ l) e = one (plain_byte b (every-head _ _ e)) (plain_label l (every-head _ _ (every_rest _ _ e)))

first_plain : (l : List ℕ) (ls : List (List ℕ)) → labels_right (l ∷ ls) ≡ true → All is_plain l
unfolding labels_right
first_plain l ls e = plain_label l (every-head _ _ (every_rest _ _ e))

others-right : (l : List ℕ) (ls : List (List ℕ)) → labels_right (l ∷ ls) ≡ true → labels_right ls ≡ true
unfolding labels_right
others-right l ls e = every-head _ _ (every_rest _ _ (every_rest _ _ e))

labels-plain : (ls : List (List ℕ)) → labels_right ls ≡ true → (n : ℕ) → All is_plain (get_or ls n [])
labels-plain [] e n = none
labels-plain (l ∷ ls) e zero = first_plain l ls e
labels-plain (l ∷ ls) e (suc n) = labels-plain ls (others-right l ls e) n

durations-fit : (at : ℕ) (ds : List ℕ) → events_right at ds ≡ fine → All in_field ds
unfolding events_right
durations-fit at [] e = none
durations-fit at (d ∷ ds) e =
    let small : d ≤ longest = between-high _ _ _ (first_holds _ (BadEvent at) _ e) in
    one (lt-ltb d field (omega arith)) (durations-fit (at + event_size) ds (first_head _ _ (first_rest _ _ e)))

-- ---- the message list

module _ (ls : List (List ℕ)) where
  list-nested : (js : List (List ℕ)) (n : ℕ) (s : Spot) {rest : List Line} → labels_right js ≡ true → s.messages ≡ n → n + length js ≤ any_number
      → ((k : ℕ) (t : Spot) → Nested ls (Listing k) t rest) → Nested ls (Listing n) s (message_lines js ++ rest)
  unfolding message_lines after further behind_line
  list-nested [] n s e m q w = w n s
  list-nested (l ∷ js) n s e m q w = goes (may_list m (omega arith) (first_plain l js e)) (list-nested js (suc n) _ (others-right l js e) (ap suc m) (omega arith) w)

list-labels : (js : List (List ℕ)) (rest : List Line) → labels_of (script_of (message_lines js ++ rest)) ≡ js ++ labels_of (script_of rest)
unfolding message_lines labels_of script_of
list-labels [] rest = refl
list-labels (l ∷ js) rest = ap (λ (ks : List (List ℕ)). l ∷ ks) (list-labels js rest)

list-durations : (js : List (List ℕ)) (rest : List Line) → durations_of (script_of (message_lines js ++ rest)) ≡ durations_of (script_of rest)
unfolding message_lines durations_of script_of
list-durations [] rest = refl
list-durations (l ∷ js) rest = list-durations js rest

list-items : (js : List (List ℕ)) (rest : List Line) → items_of 0 0 0 (script_of (message_lines js ++ rest)) ≡ items_of 0 0 0 (script_of rest)
unfolding message_lines items_of script_of
list-items [] rest = refl
list-items (l ∷ js) rest = list-items js rest

-- ---- a text without a fault

pub told-all : (size : ℕ) (p : Piece) (hs : List Line) → told size p (script_of hs) ≡ piece p
unfolding told script_of
told-all size p [] = refl
told-all size p (h ∷ hs) = told-all size p hs

module _ (p : Piece) (lawful : Lawful p) where
  abbrev page : List Line
  page = page_lines (suc (length p.durations + length p.items)) 0 0 p.durations p.items

  counted : Counted (counts_in p)
  counted = counts-held (counts_in p) lawful.counts

  on-page : Page p.labels (length p.durations) 0 p.items
  unfolding counts_in
  on-page =
      page-walked p.labels (labels-plain p.labels lawful.labels) (counts_in p) (omega (arith, counted.messages)) (table-walked (counts_in p) p.items lawful.items).1 refl refl

  says : Says p.labels 0 0 p.durations p.items page
  says =
      page-says p.labels (length p.durations) (suc (length p.durations + length p.items)) 0 0 p.durations p.items on-page (durations-fit events_at p.durations lawful.durations)
      (omega arith) (omega arith)

  pub nested : Nested p.labels Start outset (lines p)
  unfolding lines after behind_line counts_in
  nested =
      goes may_head
      (list-nested p.labels p.labels 0 outset lawful.labels refl (omega (arith, counted.messages)) (λ k s. says.nested (Listing k) before_events s))

  script-lines : script Start (written p) ≡ script_of (lines p)
  unfolding written
  script-lines = script-written p.labels nested

  piece-lines : piece_of (script_of (lines p)) ≡ p
  unfolding piece_of lines durations_of items_of labels_of script_of
  piece-lines =
      let ls : labels_of (script_of (message_lines p.labels ++ page)) ≡ p.labels = list-labels p.labels page ∙ ap (λ (ks : List (List ℕ)). p.labels ++ ks) says.labels ∙ append-nil p.labels in
      let ds : durations_of (script_of (message_lines p.labels ++ page)) ≡ p.durations = list-durations p.labels page ∙ says.durations in
      let is : items_of 0 0 0 (script_of (message_lines p.labels ++ page)) ≡ p.items = list-items p.labels page ∙ says.items 0 (λ q z. absurd (omega arith)) in
      rw (ls, ds, is)

-- ---- "reading what was written"

-- What was written of a lawful piece says this piece.
pub read-written : (p : Piece) → Lawful p → said (written p) ≡ piece p
unfolding said
read-written p l = rw (script-lines p l, piece-lines p l) (told-all (length (written p)) p (lines p))

piece-right : (p : Piece) → Lawful p → piece_right p ≡ fine
unfolding piece_right first_fault
piece-right p l = rw (l.counts, (encode-accepted p l).fine)

-- It is granted, with the size of the piece's file.
pub written-made : (room : ℕ) (p : Piece) → longest_score ≤ room → Lawful p → read_answer room (written p) ≡ Ok (length (encode p))
unfolding read_answer answered judged pick
written-made room p q l = rw (le-leb longest_score room q, read-written p l, piece-right p l)

-- What was written of an accepted file says its piece.
pub written-never-refused : (f : List ℕ) → Accepted f → said (written (decode f)) ≡ piece (decode f)
written-never-refused f a = read-written (decode f) (decode-lawful f a)

module _ (f : List ℕ) (bytes : (i : ℕ) → get_or f i 0 < 256) (accepted : Accepted f) where
  -- "Reading what was written gives the same bytes for every accepted file".
  pub reading-written : file_of (said (written (decode f))) ≡ f
  unfolding file_of
  reading-written = rw (written-never-refused f accepted) (encode-decode f bytes accepted)

  -- "the written text is never refused": it is read into any room that is long enough, with the file's size.
  pub written-granted : (room : ℕ) → longest_score ≤ room → read_answer room (written (decode f)) ≡ Ok (length f)
  written-granted room q = written-made room (decode f) q (decode-lawful f accepted) ∙ ap (λ (g : List ℕ). Ok (length g)) (encode-decode f bytes accepted)
