-- Demand 1 of `read_text` and `write_text`: "A refusal leaves every lent byte", and beside its number and place, for a 16 its line and column, every figure is 0; what is
-- granted fits the room, stands at its front, and leaves the bytes past it. That no second outcome meets their contracts, `Demand1` says. Assumes nothing.
use Rattle.std.specs.Prelude.{Result, Ok, Err}
use mathlib.Core.Path.{◌≡◌, refl}
use mathlib.Core.Bool.{Bool, true, false}
use mathlib.Core.List.{List, ◌++◌}
use Prim.Native.Nat.{ℕ, ◌≤◌}
use native.Mathlib.Omega.{arith}
use lib.Dec.{leb}
use lib.ListN.{length, drop, length-append, length-drop}
use lib.Seq.{take-append_seam, drop-append_seam}
use borrow.Author.Tests.{leb-true}
use Rattle.base.specs.Tests.{pick}
use Rattle.base.specs.Checks.{Check, fine, refused}
use Rattle.contents.specs.declared.Fault.{Fault}
use Rattle.contents.specs.Contents.{counts_of, size_of}
use Rattle.score.specs.Piece.{decode}
use Rattle.score.specs.File.{checked}
use Rattle.score.proofs.Accepted.{file-sized}
use Rattle.text.specs.declared.TextError.{TextError}
use Rattle.text.specs.declared.TextError.TheVariants.{NoRoom, BadText, BadFile}
use Rattle.text.specs.Replies.{transcript_row}
use Rattle.text.specs.Said.{said}
use Rattle.text.specs.Written.{written}
use Rattle.text.specs.Transcripts.{room_left, file_of, read_answer, fitted, allowed, write_answer}
use Rattle.demands.specs.Texts.{Stands}
use Rattle.text.proofs.GrantedLaws.{granted-room, granted-accepted, granted-size}

-- ---- a refusal: its number is not 0

pub refused-leaves-room : (r : Result ℕ TextError) (made m : List ℕ) → ((transcript_row r).number ≡ 0 → ⊥) → room_left r made m ≡ m
unfolding room_left transcript_row
refused-leaves-room (Ok n) made m h = absurd (h refl)
refused-leaves-room (Err NoRoom) made m h = refl
refused-leaves-room (Err (BadText l c)) made m h = refl
refused-leaves-room (Err (BadFile x)) made m h = refl

pub no_size : (r : Result ℕ TextError) → ((transcript_row r).number ≡ 0 → ⊥) → (transcript_row r).size ≡ 0
unfolding transcript_row
no_size (Ok n) h = absurd (h refl)
no_size (Err NoRoom) h = refl
no_size (Err (BadText l c)) h = refl
no_size (Err (BadFile x)) h = refl

-- "Line and column are 0 but for a 16."
pub no_line : (r : Result ℕ TextError) → ((transcript_row r).number ≡ 16 → ⊥) → ((transcript_row r).line ≡ 0) × ((transcript_row r).column ≡ 0)
unfolding transcript_row
no_line (Ok n) h = (refl, refl)
no_line (Err NoRoom) h = (refl, refl)
no_line (Err (BadText l c)) h = absurd (h refl)
no_line (Err (BadFile x)) h = (refl, refl)

-- ---- what is granted

stands : (made room : List ℕ) (n : ℕ) → length made ≡ n → n ≤ length room → Stands made room (made ++ drop n room) n
stands made room n e p =
    record {
      fits = p;
      front = rw (← e) (take-append_seam made (drop (length made) room));
      rest = rw (← e) (drop-append_seam made (drop (length made) room));
      long = omega (arith, length-append made (drop n room), length-drop n room);
    }

left-made : (r : Result ℕ TextError) (made room : List ℕ) (n : ℕ) → r ≡ Ok n → room_left r made room ≡ made ++ drop n room
unfolding room_left
left-made r made room n e = rw e

-- Of a text: its file.
pub made-reading : (text room : List ℕ) (n : ℕ) → read_answer (length room) text ≡ Ok n
    → Stands (file_of (said text)) room (room_left (read_answer (length room) text) (file_of (said text)) room) n
made-reading text room n g =
    let size = granted-size (length room) text n g in
    let s = file-sized (file_of (said text)) (granted-accepted (length room) text n g) in
    let whole : length (file_of (said text)) ≡ size_of (counts_of (file_of (said text))) = s.whole in
    let counted = s.counted in
    rw (left-made (read_answer (length room) text) (file_of (said text)) room n g)
    (stands (file_of (said text)) room n size (omega (arith, granted-room (length room) text n g)))

-- Of a file: its text.
fitted-made : (room : ℕ) (made : List ℕ) (n : ℕ) (b : Bool) → leb (length made) room ≡ b → pick b (Ok (length made)) (Err NoRoom) ≡ Ok n → (length made ≡ n) × (n ≤ room)
unfolding pick
fitted-made room made n true e g = let z : length made ≡ n = cc in (z, omega (arith, leb-true (length made) room e))
fitted-made room made n false e g = let z : ◌≡◌ {A = ℕ} 0 1 = cc in absurd (omega arith)

allowed-made : (v : Check Fault) (room : ℕ) (made : List ℕ) (n : ℕ) → allowed v (fitted room made) ≡ Ok n → (length made ≡ n) × (n ≤ room)
unfolding allowed fitted
allowed-made fine room made n g = fitted-made room made n (leb (length made) room) refl g
allowed-made (refused x) room made n g = let z : ◌≡◌ {A = ℕ} 0 1 = cc in absurd (omega arith)

written-fits : (f : List ℕ) (room n : ℕ) → write_answer room f ≡ Ok n → (length (written (decode f)) ≡ n) × (n ≤ room)
unfolding write_answer
written-fits f room n g = allowed-made (checked f) room (written (decode f)) n g

pub made-writing : (f room : List ℕ) (n : ℕ) → write_answer (length room) f ≡ Ok n
    → Stands (written (decode f)) room (room_left (write_answer (length room) f) (written (decode f)) room) n
made-writing f room n g =
    let h = written-fits f (length room) n g in
    rw (left-made (write_answer (length room) f) (written (decode f)) room n g) (stands (written (decode f)) room n h.0 h.1)
