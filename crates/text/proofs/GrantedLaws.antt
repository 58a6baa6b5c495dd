-- A text whose reading is granted says a lawful piece, and the file that it makes is the file of this piece. Because nothing of it is lost in the file, what the file's
-- check finds holds of the piece itself. Assumes nothing.
use Rattle.std.specs.Prelude.{Ok, Err}
use mathlib.Core.Path.{◌≡◌, refl, sym, ap, ◌∙◌}
use mathlib.Core.Bool.{Bool, true, false}
use mathlib.Core.List.{List}
use Prim.Native.Nat.{ℕ, ◌<◌, ◌≤◌}
use native.Mathlib.Omega.{arith}
use lib.Dec.{leb}
use lib.ListN.{length, get_or}
use borrow.Author.Tests.{leb-true}
use Rattle.base.specs.Tests.{pick}
use Rattle.base.specs.Checks.{Check, fine, refused}
use Rattle.base.proofs.CheckLaws.{first_head, first_rest}
use Rattle.contents.specs.declared.Fault.{Fault}
use Rattle.contents.specs.Limits.{longest_score}
use Rattle.score.specs.Piece.{Piece, decode}
use Rattle.score.specs.File.{Accepted}
use Rattle.score.specs.Encode.{encode, Lawful}
use Rattle.score.proofs.EncodingPieces.{fielded-lawful, decode-encode, encode-accepted, encode-bytes}
use Rattle.text.specs.declared.TextError.TheVariants.{NoRoom}
use Rattle.text.specs.Said.{Reading, piece, unread, said}
use Rattle.text.specs.Written.{written}
use Rattle.text.specs.Transcripts.{piece_right, judged, fault_at, answered, file_of, read_answer}
use Rattle.text.proofs.FieldLaws.{said-fielded}
use Rattle.text.proofs.RoundTrip.{reading-written}

right-lawful : (t : List ℕ) (p : Piece) → said t ≡ piece p → piece_right p ≡ fine → Lawful p
unfolding piece_right
right-lawful t p e r = fielded-lawful p (said-fielded t p e (first_head _ _ r)) (record { fine = first_head _ _ (first_rest _ _ r) })

-- What a granted reading comes to.
record Grants (t : List ℕ) (n : ℕ) : Type 0 where
  score : Piece
  says : said t ≡ piece score
  lawful : Lawful score
  size : length (encode score) ≡ n

judged-grants : (t : List ℕ) (n : ℕ) (p : Piece) → said t ≡ piece p → (v : Check Fault) → piece_right p ≡ v → judged (encode p) v ≡ Ok n → Grants t n
unfolding judged
judged-grants t n p e fine r m = record { score = p; says = e; lawful = right-lawful t p e r; size = cc }
judged-grants t n p e (refused x) r m = let z : ◌≡◌ {A = ℕ} 0 1 = cc in absurd (omega arith)

answered-grants : (t : List ℕ) (n : ℕ) (r : Reading) → said t ≡ r → answered t r ≡ Ok n → Grants t n
unfolding answered fault_at
answered-grants t n (piece p) e m = judged-grants t n p e (piece_right p) refl m
answered-grants t n (unread at) e m = let z : ◌≡◌ {A = ℕ} 0 1 = cc in absurd (omega arith)

module _ (room : ℕ) (t : List ℕ) (n : ℕ) (granted : read_answer room t ≡ Ok n) where
  roomed : (b : Bool) → leb longest_score room ≡ b → pick b (answered t (said t)) (Err NoRoom) ≡ Ok n → (longest_score ≤ room) × Grants t n
  unfolding pick
  roomed true e m = (leb-true _ _ e, answered-grants t n (said t) refl m)
  roomed false e m = let z : ◌≡◌ {A = ℕ} 0 1 = cc in absurd (omega arith)

  grants : (longest_score ≤ room) × Grants t n
  unfolding read_answer
  grants = roomed (leb longest_score room) refl granted

  file-of : file_of (said t) ≡ encode grants.1.score
  unfolding file_of
  file-of = rw grants.1.says

  pub granted-room : longest_score ≤ room
  granted-room = grants.0

  -- The file that it makes: it is accepted, has as many bytes as the reply says, and bytes only,
  pub granted-accepted : Accepted (file_of (said t))
  granted-accepted = rw file-of (encode-accepted grants.1.score grants.1.lawful)

  pub granted-size : length (file_of (said t)) ≡ n
  granted-size = rw file-of grants.1.size

  pub granted_bytes : (i : ℕ) → get_or (file_of (said t)) i 0 < 256
  granted_bytes = rw file-of (encode-bytes grants.1.score grants.1.lawful)

  -- and the text says what it says.
  pub granted-says : said t ≡ piece (decode (file_of (said t)))
  granted-says = grants.1.says ∙ ap piece (sym (rw file-of (decode-encode grants.1.score grants.1.lawful)))

  pub granted-decoded : (p : Piece) → said t ≡ piece p → decode (file_of (said t)) ≡ p
  granted-decoded p e = let z : piece (decode (file_of (said t))) ≡ piece p = sym granted-says ∙ e in cc

  pub granted-lawful : (p : Piece) → said t ≡ piece p → Lawful p
  granted-lawful p e = let z : p ≡ grants.1.score = same (sym e ∙ grants.1.says) in rw z grants.1.lawful where
    same : {q r : Piece} → piece q ≡ piece r → q ≡ r
    same f = cc

  -- Written and read again it makes the same file.
  pub granted-again : file_of (said (written (decode (file_of (said t))))) ≡ file_of (said t)
  granted-again = reading-written (file_of (said t)) granted_bytes granted-accepted
