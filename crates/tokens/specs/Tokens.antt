-- Tokens at the front of the bytes that are left. A reader takes these bytes and gives what it read with the bytes then left, or stops with the bytes from the
-- first one on that can't be: a fault is where these bytes begin.
use Rattle.std.specs.Prelude.{ℕ, Bool, true, false, List, [], ◌∷◌, eqb, ltb, length}
use Rattle.base.specs.Tests.{pick, every, between}
use Rattle.ascii.specs.Words.{newline, same}
use Rattle.ascii.specs.Numbers.{most_digits, is_digit, value}
use Rattle.tokens.specs.Bytes.{quote, hash, backslash, is_blank, is_letter, is_escaped}

-- "The text is read from front to back and the first fault met decides".
pub data Read (A : Type 0) : Type 0 where
  got : A → List ℕ → Read A
  stop : List ℕ → Read A

-- The bytes then left; of a fault those from it on.
unfoldable pub left_by : {A : Type 0} → Read A → List ℕ
left_by (got a left) = left
left_by (stop left) = left

-- The next reader goes on behind what was read.
unfoldable pub onward : {A B : Type 0} → Read A → (A → List ℕ → Read B) → Read B
onward (got a left) next = next a left
onward (stop left) next = stop left

-- ---- blanks

-- "any number of blanks: space, tab, carriage return, newline, and `#` with all up to the end of its line": what is left behind them, inside a comment or not.
unfoldable pub past_blanks : (comment : Bool) → List ℕ → List ℕ
past_blanks c [] = []
past_blanks true (b ∷ bs) = pick (eqb b newline) (past_blanks false bs) (past_blanks true bs)
past_blanks false (b ∷ bs) = pick (is_blank b) (past_blanks false bs) (pick (eqb b hash) (past_blanks true bs) (b ∷ bs))

abbrev pub blanks : List ℕ → List ℕ
blanks bs = past_blanks false bs

-- ---- words and numbers

-- "A word ends where its letters (a to z) end, a number where its digits do": the bytes of one kind at the front.
unfoldable pub leading : (ℕ → Bool) → List ℕ → List ℕ
leading p [] = []
leading p (b ∷ bs) = pick (p b) (b ∷ leading p bs) []

-- What is left behind them.
unfoldable pub behind : (ℕ → Bool) → List ℕ → List ℕ
behind p [] = []
behind p (b ∷ bs) = pick (p b) (behind p bs) (b ∷ bs)

-- "A word ends where its letters (a to z) end"
unfoldable pub is_word : List ℕ → List ℕ → Bool
is_word word bs = same word (leading is_letter bs)

-- "1 to 10 digits", below the limit of its field. "Leading zeros count towards the 10 digits."
unfoldable pub is_number : ℕ → List ℕ → Bool
is_number limit ds = every (between 1 most_digits (length ds) ∷ ltb (value ds) limit ∷ [])

-- The fault is "the first byte .. of a number with more than 10 digits or too big for its field".
unfoldable pub number : (limit : ℕ) → List ℕ → Read ℕ
number limit bs = pick (is_number limit (leading is_digit bs)) (got (value (leading is_digit bs)) (behind is_digit bs)) (stop bs)

-- ---- labels

-- One byte more in front of what was read.
unfoldable pub with_byte : ℕ → Read (List ℕ) → Read (List ℕ)
with_byte b (got l left) = got (b ∷ l) left
with_byte b (stop left) = stop left

-- "'"' { any byte but '"', '\' and newline | '\"' | '\\' } '"'", from behind its first quote, or from behind a backslash.
-- The fault is "within a label the newline, the byte after a backslash, or the text's end itself".
unfoldable pub label_from : (escaped : Bool) → List ℕ → Read (List ℕ)
label_from e [] = stop []
label_from true (b ∷ bs) = pick (is_escaped b) (with_byte b (label_from false bs)) (stop (b ∷ bs))
label_from false (b ∷ bs) =
    pick (eqb b quote) (got [] bs)
    (pick (eqb b backslash) (label_from true bs)
    (pick (eqb b newline) (stop (b ∷ bs)) (with_byte b (label_from false bs))))

-- The bytes that it stands for, without the escapes' backslashes.
unfoldable pub label : List ℕ → Read (List ℕ)
label [] = stop []
label (b ∷ bs) = pick (eqb b quote) (label_from false bs) (stop (b ∷ bs))

-- A label is there.
unfoldable pub is_read : Read (List ℕ) → Bool
is_read (got l left) = true
is_read (stop left) = false

-- Its bytes; none where none is there.
unfoldable pub bytes_in : Read (List ℕ) → List ℕ
bytes_in (got l left) = l
bytes_in (stop left) = []
