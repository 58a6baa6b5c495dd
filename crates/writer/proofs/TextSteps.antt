-- The whole text in lent bytes, and what is then answered and left in the room.
-- Assumes nothing.
use Rattle.std.specs.Prelude.{Result, Ok, Err}
use mathlib.Core.Path.{◌≡◌, refl, sym, ap, ◌∙◌}
use mathlib.Core.List.{List, [], ◌++◌, append-nil}
use Prim.Native.Nat.{ℕ, ◌+◌, ◌<◌, ◌≤◌}
use native.Mathlib.Omega.{arith}
use lib.ListN.{length, take, drop, replicate, take-append-drop, length-replicate}
use lib.Seq.{length-take-le}
use borrow.Author.Tests.{le-leb, lt-leb}
use borrow.Author.Rules.{rules}
use Rattle.base.specs.Tests.{pick}
use Rattle.ascii.specs.Laying.{Laid}
use Rattle.contents.specs.declared.Fault.{Fault}
use Rattle.contents.specs.Replies.{verdict_of}
use Rattle.contents.proofs.Verdicts.{verdict-fine, verdict-refused}
use Rattle.score.specs.Piece.{Piece, decode}
use Rattle.score.specs.File.{checked, Accepted}
use Rattle.score.proofs.Accepted.{accepted-told}
use Rattle.score.proofs.EncodingFiles.{decode-lawful}
use Rattle.text.specs.declared.TextError.{TextError}
use Rattle.text.specs.declared.TextError.TheVariants.{NoRoom, BadFile}
use Rattle.text.specs.Written.{written}
use Rattle.text.specs.Transcripts.{text_room, fitted, allowed, room_left, write_answer}
use Rattle.text.proofs.SizeLaws.{text_short}
use Rattle.writer.specs.Phrases.{heading_line}
use Rattle.writer.specs.Layouts.{messages_text, page_text}
use Rattle.writer.proofs.PageLaws.{written_is}
use Rattle.writer.proofs.Owed.{Owed, owed_start, owed-done, owed-room, owed-laid}

-- ---- heading, message list and page

module _ (p : Piece) (o : List ℕ) (room : length (written p) ≤ length o) where
  owed_all : Owed o 0 (written p) o 0 (heading_line ++ (messages_text p 0 ++ page_text p 0 0 0))
  owed_all = rw (← (written_is p)) (owed_start o 0 (written p) (omega arith))

  pub heading-room : 0 + length heading_line ≤ length o
  heading-room = owed-room o 0 (written p) o 0 heading_line (messages_text p 0 ++ page_text p 0 0 0) owed_all

  module _ (m : List ℕ) (a : ℕ) (headed : Laid o 0 heading_line m a) where
    owed-list : Owed o 0 (written p) m a (messages_text p 0 ++ page_text p 0 0 0)
    owed-list = owed-laid o 0 (written p) o 0 heading_line (messages_text p 0 ++ page_text p 0 0 0) owed_all m a headed

    pub list-room : a + length (messages_text p 0) ≤ length m
    list-room = owed-room o 0 (written p) m a (messages_text p 0) (page_text p 0 0 0) owed-list

    module _ (k : List ℕ) (b : ℕ) (listed : Laid m a (messages_text p 0) k b) where
      owed-page : Owed o 0 (written p) k b (page_text p 0 0 0 ++ [])
      owed-page = rw (append-nil (page_text p 0 0 0)) (owed-laid o 0 (written p) m a (messages_text p 0) (page_text p 0 0 0) owed-list k b listed)

      pub page-room : b + length (page_text p 0 0 0) ≤ length k
      page-room = owed-room o 0 (written p) k b (page_text p 0 0 0) [] owed-page

      pub text-laid : (n : List ℕ) (r : ℕ) → Laid k b (page_text p 0 0 0) n r → Laid o 0 (written p) n r
      text-laid n r paged = owed-done o 0 (written p) n r [] (owed-laid o 0 (written p) k b (page_text p 0 0 0) [] owed-page n r paged) refl

pub ruleset texts = (heading-room, list-room, page-room, text-laid, rules)

-- ---- the room

module _ (text room : List ℕ) where
  pub whole-short : length room < length text → Err NoRoom ≡ fitted (length room) text
  unfolding fitted pick
  whole-short p = rw (lt-leb (length text) (length room) p)

  pub short-left : room ≡ room_left (Err NoRoom) text room
  unfolding room_left
  short-left = refl

  pub whole-made : length text ≤ length room → Ok (length text) ≡ fitted (length room) text
  unfolding fitted pick
  whole-made p = rw (le-leb (length text) (length room) p)

  pub whole-left : (new : List ℕ) (r : ℕ) → Laid room 0 text new r → new ≡ room_left (Ok (length text)) text room
  unfolding room_left
  whole-left new r l =
      let z : r ≡ length text = omega (arith, l.stop) in
      let f : take (length text) new ≡ text = rw z at l.front in
      let o : drop (length text) new ≡ drop (length text) room = rw z at l.others in
      sym (take-append-drop (length text) new) ∙ ap (λ (x : List ℕ). x ++ drop (length text) new) f ∙ ap (λ (x : List ℕ). text ++ x) o

pub ruleset rooms = (whole-short, short-left, whole-made, whole-left, rules)

-- ---- an accepted file

text-fits : (f : List ℕ) → Accepted f → length (written (decode f)) ≤ text_room
text-fits f a = text_short (decode f) (decode-lawful f a)

pub array-fits : (f : List ℕ) → Accepted f → length (written (decode f)) ≤ length (replicate {0} {A = ℕ} text_room 0)
array-fits f a = rw (length-replicate {0} {A = ℕ} text_room 0) (text-fits f a)

pub front-count : (p : Piece) (o new : List ℕ) (r : ℕ) → Laid o 0 (written p) new r → length (take r new) ≡ r
front-count p o new r laid = length-take-le r new laid.within

-- what is told of the front of the bytes is told of the text
module _ (p : Piece) (o new : List ℕ) (r : ℕ) (laid : Laid o 0 (written p) new r) (t : Result ℕ TextError) (room : List ℕ) where
  pub front-fitted : t ≡ fitted (length room) (take r new) → t ≡ fitted (length room) (written p)
  front-fitted e = rw laid.front at e

  pub front-left : (left : List ℕ) → left ≡ room_left t (take r new) room → left ≡ room_left t (written p) room
  front-left left e = rw laid.front at e

pub ruleset fronts = (front-count, front-fitted, front-left, rules)

-- ---- any file

module _ (f room : List ℕ) (v : Result (Unit {0}) Fault) (told : v ≡ verdict_of (checked f)) where
  pub file-refused : (r : Result ℕ TextError) (x : Fault) → v ≡ Err x → r ≡ Err (BadFile x) → r ≡ write_answer (length room) f
  unfolding write_answer allowed
  file-refused r x e q = rw (q, verdict-refused (checked f) v x told e)

  pub file-written : (t : Result ℕ TextError) → v ≡ Ok tt → t ≡ fitted (length room) (written (decode f)) → t ≡ write_answer (length room) f
  unfolding write_answer allowed
  file-written t e p = rw (verdict-fine (checked f) v told e) p

pub refused-left : (r : Result ℕ TextError) (x : Fault) (made room : List ℕ) → r ≡ Err (BadFile x) → room ≡ room_left r made room
unfolding room_left
refused-left r x made room q = rw q

pub ruleset answers = (accepted-told, file-refused, file-written, refused-left, rules)
