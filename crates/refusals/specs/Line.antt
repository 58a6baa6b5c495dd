-- The line that tells people of a refusal, as `old.bin: refused 23 at byte 120, item 6, delay: an item's delay, above 5,040,000 grains (1,000 beats)`.
use Rattle.std.specs.Prelude.{ℕ, List, [], ◌∷◌, ◌++◌}
use Rattle.base.specs.Tests.{pick}
use Rattle.ascii.specs.Words.{newline}
use Rattle.ascii.specs.Decimals.{decimal}
use Rattle.session.specs.declared.Refusal.{Refusal}
use Rattle.session.specs.Replies.{refusal_row}
use Rattle.ascii.specs.Text.{bytes_of}
use Rattle.wording.specs.Words.{refusal_words, placed}
use Rattle.refusals.specs.Entries.{entry_of, comma, named_words}

-- A place in the file, and room for it: its word, and a number of 20 digits.
unfoldable pub at_byte : ℕ → List ℕ
at_byte place = bytes_of " at byte " ++ decimal place

abbrev pub place_room : ℕ
place_room = 29

-- The place, where the refusal has one.
unfoldable pub place_words : Refusal → List ℕ
place_words x = pick (placed x) (at_byte (refusal_row x).place) []

-- The place, the entry that it lies in, and an item's field, as ` at byte 120, item 6, delay`.
unfoldable pub where_words : (file : List ℕ) → Refusal → List ℕ
where_words file x = place_words x ++ named_words comma (entry_of file x) x

-- What is refused, then the table's row: number, place and words.
unfoldable pub refusal_line : (name file : List ℕ) → Refusal → List ℕ
refusal_line name file x =
    name ++ (bytes_of ": refused " ++ (decimal (refusal_row x).number ++ (where_words file x ++ (bytes_of ": " ++ (refusal_words x ++ (newline ∷ []))))))

-- Room for the line of any refusal, without its name.
abbrev pub refusal_room : ℕ
refusal_room = 192
