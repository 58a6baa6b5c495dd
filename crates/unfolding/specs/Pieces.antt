-- The piece that an unfolded score is, for the theorems about its file.
use Rattle.std.specs.Prelude.{ℕ, List, map}
use Rattle.contents.specs.Bytes.{part}
use Rattle.score.specs.Piece.{Piece}
use Rattle.unfolding.specs.Messages.{Entry, Messages}
use Rattle.unfolding.specs.Unfolded.{page}
use Rattle.unfolding.specs.Sizes.{Score}

-- The bytes that an entry names in the text.
unfoldable pub label_in : (text : List ℕ) → Entry → List ℕ
label_in text e = part text e.start e.size

unfoldable pub labels_in : Messages → List (List ℕ)
labels_in m = map (label_in m.text) m.entries

unfoldable pub piece_of : Score → Piece
piece_of s = record { durations = s.durations; items = page s.items; labels = labels_in s.messages }
