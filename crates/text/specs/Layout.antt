-- A text without its layout: what is the same in two texts that differ in blanks and comments only, and what such texts have in common when they are read.
use Rattle.std.specs.Prelude.{ℕ, List, [], ◌∷◌, eqb, Result, Ok, Err}
use Rattle.base.specs.Tests.{pick}
use Rattle.ascii.specs.Words.{newline, space}
use Rattle.tokens.specs.Bytes.{quote, hash, backslash, is_blank}
use Rattle.tokens.specs.Tokens.{blanks}
use Rattle.score.specs.Piece.{Piece}
use Rattle.text.specs.declared.TextError.{TextError}
use Rattle.text.specs.declared.TextError.TheVariants.{NoRoom, BadText, BadFile}
use Rattle.text.specs.Said.{Reading, piece, unread}

-- ---- a text with one space for its blanks

-- What the bytes before the next one leave off in; a text begins as behind a token.
pub data Lies : Type 0 where
  in_token : Lies
  in_gap : Lies
  in_comment : Lies
  in_label : Lies
  in_escape : Lies

-- "Between tokens stand any number of blanks: space, tab, carriage return, newline, and `#` with all up to the end of its line": for these stands one space, before
-- the byte behind them. The bytes of a label stay, from its first quote to its last; where it has no last, all up to the text's end.
unfoldable pub squeezed_from : Lies → List ℕ → List ℕ
squeezed_from lies [] = []
squeezed_from in_token (b ∷ bs) =
    pick (is_blank b) (squeezed_from in_gap bs)
    (pick (eqb b hash) (squeezed_from in_comment bs)
    (b ∷ pick (eqb b quote) (squeezed_from in_label bs) (squeezed_from in_token bs)))
squeezed_from in_gap (b ∷ bs) =
    pick (is_blank b) (squeezed_from in_gap bs)
    (pick (eqb b hash) (squeezed_from in_comment bs)
    (space ∷ b ∷ pick (eqb b quote) (squeezed_from in_label bs) (squeezed_from in_token bs)))
squeezed_from in_comment (b ∷ bs) = pick (eqb b newline) (squeezed_from in_gap bs) (squeezed_from in_comment bs)
squeezed_from in_label (b ∷ bs) =
    b ∷ pick (eqb b quote) (squeezed_from in_token bs)
    (pick (eqb b backslash) (squeezed_from in_escape bs) (squeezed_from in_label bs))
squeezed_from in_escape (b ∷ bs) = b ∷ squeezed_from in_label bs

-- The whole of a text: no space stands for those before its first token and behind its last.
unfoldable pub squeezed : List ℕ → List ℕ
squeezed text = squeezed_from in_token (blanks text)

-- ---- what is asked of such texts

pub data Meaning : Type 0 where
  meant : Piece → Meaning
  nonsense : Meaning

-- The piece, or that there is none: not where the fault is.
unfoldable pub meaning : Reading → Meaning
meaning (piece p) = meant p
meaning (unread at) = nonsense

-- All that is answered but the line and column of a 16.
unfoldable pub placeless : Result ℕ TextError → Result ℕ TextError
placeless (Ok n) = Ok n
placeless (Err NoRoom) = Err NoRoom
placeless (Err (BadText l c)) = Err (BadText 0 0)
placeless (Err (BadFile x)) = Err (BadFile x)
