-- The lines that tell people of a text that is refused: for a byte of its own, as `new.txt:12:7: refused 16: text against the grammar`; or for what its file would be, at what made
-- the byte, as `new.txt:31:5: refused 23 at byte 120 of the file it would make: item 6, delay: an item's delay, above 5,040,000 grains (1,000 beats)`. A hint follows where there is one.
use Rattle.std.specs.Prelude.{ℕ, List, [], ◌∷◌, ◌++◌, Result, Err, Option, None}
use Rattle.ascii.specs.Words.{newline}
use Rattle.ascii.specs.Decimals.{decimal}
use Rattle.ascii.specs.Text.{bytes_of}
use Rattle.contents.specs.declared.Counts.{Counts}
use Rattle.session.specs.declared.Refusal.{Refusal}
use Rattle.session.specs.Replies.{refusal_row}
use Rattle.tokens.specs.declared.Place.{Place}
use Rattle.text.specs.declared.TextError.{TextError}
use Rattle.text.specs.declared.TextError.TheVariants.{NoRoom, BadText}
use Rattle.text.specs.Replies.{transcript_row}
use Rattle.hints.specs.declared.Hint.{Hint}
use Rattle.hints.specs.Hints.{hint_words}
use Rattle.wording.specs.declared.Row.{Row}
use Rattle.wording.specs.Words.{refusal_words, transcript_words, row_number, row_words}
use Rattle.contents.specs.Entries.{entry_at}
use Rattle.refusals.specs.Entries.{colon, named_words}
use Rattle.refusals.specs.Line.{place_words}

-- ---- a byte of the text

-- The text's name, line and column, "in the form that editors jump to".
unfoldable pub spot_words : (name : List ℕ) → (line column : ℕ) → List ℕ
spot_words name l c = name ++ ((bytes_of ":" ++ decimal l) ++ (bytes_of ":" ++ decimal c))

-- That a row's call is refused, with its number; and its words, and the hint.
unfoldable pub row_refused : Row → List ℕ
row_refused x = bytes_of ": refused " ++ decimal (row_number x)

unfoldable pub row_end : Row → Option Hint → List ℕ
row_end x h = bytes_of ": " ++ (row_words x ++ (hint_words h ++ (newline ∷ [])))

-- That it is refused, with the row's number and words, and the hint.
unfoldable pub told_end : Result ℕ TextError → Option Hint → List ℕ
told_end t h = bytes_of ": " ++ (transcript_words t ++ (hint_words h ++ (newline ∷ [])))

unfoldable pub told_words : Result ℕ TextError → Option Hint → List ℕ
told_words t h = (bytes_of ": refused " ++ decimal (transcript_row t).number) ++ told_end t h

unfoldable pub misread_line : (name : List ℕ) → (line column : ℕ) → Option Hint → List ℕ
misread_line name l c h = spot_words name l c ++ told_words (Err (BadText l c)) h

-- A room too short has no place in the text, and no hint.
unfoldable pub room_line : (name : List ℕ) → List ℕ
room_line name = name ++ told_words (Err NoRoom) None

-- Room for each: the numbers have at most 20 digits.
abbrev pub spot_room : ℕ
spot_room = 42

abbrev pub told_room : ℕ
told_room = 219

-- ---- a byte of the file that the text would make

-- That it is refused, with the row's number.
unfoldable pub refused_number : Refusal → List ℕ
refused_number x = bytes_of ": refused " ++ decimal (refusal_row x).number

-- The place in that file, the entry that it lies in, by the counts of what the text says, and an item's field.
unfoldable pub unmade_words : Counts → Refusal → List ℕ
unmade_words c x = place_words x ++ (bytes_of " of the file it would make" ++ named_words colon (entry_at c (refusal_row x).place) x)

unfoldable pub refused_end : Refusal → Option Hint → List ℕ
refused_end x h = bytes_of ": " ++ (refusal_words x ++ (hint_words h ++ (newline ∷ [])))

unfoldable pub refused_file : Counts → Refusal → Option Hint → List ℕ
refused_file c x h = refused_number x ++ (unmade_words c x ++ refused_end x h)

-- What has no line and column, as an extended score, and what has.
unfoldable pub unmade_line : (name : List ℕ) → Counts → Refusal → List ℕ
unmade_line name c x = name ++ refused_file c x None

unfoldable pub misfit_line : (name : List ℕ) → Place → Counts → Refusal → Option Hint → List ℕ
misfit_line name p c x h = spot_words name p.line p.column ++ refused_file c x h

-- Room for the number, for the place with its entry, for an end without its hint, and for the whole behind the name or the line and column.
abbrev pub number_room : ℕ
number_room = 30

abbrev pub unmade_room : ℕ
unmade_room = 97

abbrev pub end_room : ℕ
end_room = 89

abbrev pub refused_room : ℕ
refused_room = 316

-- Room for any of these lines, without its name.
abbrev pub text_line_room : ℕ
text_line_room = 360
