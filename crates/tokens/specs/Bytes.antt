-- The bytes of the text form, in ASCII, and their kinds.
use Rattle.std.specs.Prelude.{ℕ, ◌≡◌, Bool, true, false, not, List, [], ◌∷◌, eqb}
use Rattle.base.specs.Tests.{one_of, between}
use Rattle.ascii.specs.Words.{newline, space}

abbrev pub tab : ℕ
tab = 9

abbrev pub carriage_return : ℕ
carriage_return = 13

abbrev pub quote : ℕ
quote = 34

abbrev pub hash : ℕ
hash = 35

abbrev pub slash : ℕ
slash = 47

abbrev pub backslash : ℕ
backslash = 92

abbrev pub letter_a : ℕ
letter_a = 97

abbrev pub letter_z : ℕ
letter_z = 122

abbrev pub opening : ℕ
opening = 123

abbrev pub closing : ℕ
closing = 125

-- "blanks: space, tab, carriage return, newline"
unfoldable pub is_blank : ℕ → Bool
is_blank b = one_of (space ∷ tab ∷ carriage_return ∷ newline ∷ []) b

-- "its letters (a to z)"
unfoldable pub is_letter : ℕ → Bool
is_letter b = between letter_a letter_z b

-- "Only newline (byte 10) ends a line."
abbrev pub is_plain : ℕ → Bool
is_plain b = not (eqb b newline)

-- A byte that a backslash may stand before: "'\"' | '\\'"
unfoldable pub is_escaped : ℕ → Bool
is_escaped b = one_of (quote ∷ backslash ∷ []) b

-- Every byte is of this kind.
pub data All (p : ℕ → Bool) : List ℕ → Type 0 where
  none : All p []
  one : {b : ℕ} {bs : List ℕ} → p b ≡ true → All p bs → All p (b ∷ bs)

-- No byte of this kind is the first.
pub data Stops (p : ℕ → Bool) : List ℕ → Type 0 where
  nothing : Stops p []
  here : {b : ℕ} {bs : List ℕ} → p b ≡ false → Stops p (b ∷ bs)
