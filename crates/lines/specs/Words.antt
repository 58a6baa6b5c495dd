-- The fixed words of `play`, in ASCII.
use Rattle.std.specs.Prelude.{ℕ, List}
use Rattle.ascii.specs.Text.{bytes_of}

-- "`O parts tempo` (first, once), `H event tempo`, `T ms`"
abbrev pub open_command : List ℕ
open_command = bytes_of "O "

abbrev pub hear_command : List ℕ
hear_command = bytes_of "H "

abbrev pub pass_command : List ℕ
pass_command = bytes_of "T "

-- "It prints `open N parts C`"
abbrev pub open_word : List ℕ
open_word = bytes_of "open "

abbrev pub parts_word : List ℕ
parts_word = bytes_of " parts "

-- "`no N` for a refused call"
abbrev pub no_word : List ℕ
no_word = bytes_of "no "

-- "`bad L` for line L"
abbrev pub bad_word : List ℕ
bad_word = bytes_of "bad "

-- "`end K sent S`"
abbrev pub end_word : List ℕ
end_word = bytes_of "end "

abbrev pub sent_word : List ℕ
sent_word = bytes_of " sent "
