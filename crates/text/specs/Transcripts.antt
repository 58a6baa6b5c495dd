-- What comes of reading a text and of writing a file, and what then stands in the lent room.
use Rattle.std.specs.Prelude.{ℕ, List, [], ◌∷◌, ◌++◌, leb, length, take, drop, Result, Ok, Err}
use Rattle.base.specs.Tests.{pick}
use Rattle.base.specs.Checks.{Check, fine, refused, first_fault}
use Rattle.contents.specs.declared.Fault.{Fault}
use Rattle.contents.specs.Limits.{longest_score}
use Rattle.contents.specs.Contents.{counts_right}
use Rattle.tokens.specs.declared.Place.{Place}
use Rattle.tokens.specs.Places.{place_behind}
use Rattle.score.specs.Piece.{Piece, decode}
use Rattle.score.specs.Encode.{counts_in, encode}
use Rattle.score.specs.File.{checked}
use Rattle.text.specs.declared.TextError.{TextError}
use Rattle.text.specs.declared.TextError.TheVariants.{NoRoom, BadText, BadFile}
use Rattle.text.specs.Said.{Reading, piece, unread, said}
use Rattle.text.specs.Written.{written}

-- What was made stands at the front of the room and the bytes past it stay; "a refusal leaves every lent byte".
unfoldable pub room_left : Result ℕ TextError → (made room : List ℕ) → List ℕ
room_left (Ok n) made m = made ++ drop n m
room_left (Err NoRoom) made m = m
room_left (Err (BadText l c)) made m = m
room_left (Err (BadFile x)) made m = m

-- ---- reading

-- "a text past a count limit then gets the 4 its file would": "Counts past a limit get 4 at 4, 12, 20 or 28 whatever their size". Then the file's own check.
unfoldable pub piece_right : Piece → Check Fault
piece_right p = first_fault (counts_right (counts_in p) ∷ checked (encode p) ∷ [])

unfoldable pub judged : (made : List ℕ) → Check Fault → Result ℕ TextError
judged made fine = Ok (length made)
judged made (refused x) = Err (BadFile x)

unfoldable pub fault_at : Place → Result ℕ TextError
fault_at p = Err (BadText p.line p.column)

-- "16 for text, with line and column, before the file check": the byte behind those that stand before it.
unfoldable pub answered : (text : List ℕ) → Reading → Result ℕ TextError
answered text (unread at) = fault_at (place_behind (take at text))
answered text (piece p) = judged (encode p) (piece_right p)

-- The file of what a text says.
unfoldable pub file_of : Reading → List ℕ
file_of (unread at) = []
file_of (piece p) = encode p

-- "2 for a file room under 52,256 bytes"
unfoldable pub read_answer : (room : ℕ) → (text : List ℕ) → Result ℕ TextError
read_answer room text = pick (leb longest_score room) (answered text (said text)) (Err NoRoom)

-- ---- writing

-- "A text room of 262,144 bytes always holds it, as a named constant says."
abbrev pub text_room : ℕ
text_room = 262144

-- "a text room shorter than the text to be written", checked "after the file check"
unfoldable pub fitted : (room : ℕ) → (made : List ℕ) → Result ℕ TextError
fitted room made = pick (leb (length made) room) (Ok (length made)) (Err NoRoom)

unfoldable pub allowed : Check Fault → Result ℕ TextError → Result ℕ TextError
allowed fine t = t
allowed (refused x) t = Err (BadFile x)

unfoldable pub write_answer : (room : ℕ) → (file : List ℕ) → Result ℕ TextError
write_answer room f = allowed (checked f) (fitted room (written (decode f)))
