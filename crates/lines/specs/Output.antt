-- The lines that `play` prints.
use Rattle.std.specs.Prelude.{ℕ, List, [], ◌∷◌, ◌++◌}
use Rattle.ascii.specs.Words.{space, newline}
use Rattle.ascii.specs.Decimals.{decimal}
use Rattle.lines.specs.Words.{open_word, parts_word, no_word, bad_word, end_word, sent_word}

-- A word and a number, with the line's end; the same behind another word and number.
unfoldable pub word_line : List ℕ → ℕ → List ℕ
word_line word n = word ++ (decimal n ++ (newline ∷ []))

unfoldable pub words_line : List ℕ → ℕ → List ℕ → ℕ → List ℕ
words_line word n other m = word ++ (decimal n ++ word_line other m)

-- "`open N parts C`"
abbrev pub open_line : (number parts : ℕ) → List ℕ
open_line n c = words_line open_word n parts_word c

-- "per message clock, due date, part and label", each number with a space after it
unfoldable pub figure : ℕ → List ℕ
figure n = decimal n ++ (space ∷ [])

unfoldable pub message_line : (clock due part : ℕ) → List ℕ → List ℕ
message_line k due p label = figure k ++ (figure due ++ (figure p ++ (label ++ (newline ∷ []))))

-- "`no N` for a refused call"; "`bad L` for line L that it can't read or that comes out of turn"
abbrev pub no_line : ℕ → List ℕ
no_line n = word_line no_word n

abbrev pub bad_line : ℕ → List ℕ
bad_line l = word_line bad_word l

-- "last `end K sent S` (clock and total, both 0 without a session)"
abbrev pub end_line : (clock total : ℕ) → List ℕ
end_line k s = words_line end_word k sent_word s

-- Room for any line without a label; a message's line needs its label's bytes besides.
abbrev pub line_room : ℕ
line_room = 64
