-- Single bytes in ASCII, and words among bytes.
use Rattle.std.specs.Prelude.{ℕ, suc, Bool, true, false, List, [], ◌∷◌, eqb, length}
use Rattle.base.specs.Tests.{pick, every}

abbrev pub space : ℕ
space = 32

abbrev pub newline : ℕ
newline = 10

abbrev pub zero_digit : ℕ
zero_digit = 48

abbrev pub nine_digit : ℕ
nine_digit = 57

-- The bytes begin with this word.
unfoldable pub begins : List ℕ → List ℕ → Bool
begins [] bytes = true
begins (w ∷ ws) [] = false
begins (w ∷ ws) (b ∷ bs) = pick (eqb w b) (begins ws bs) false

-- The bytes are this word, all of them.
unfoldable pub same : List ℕ → List ℕ → Bool
same word bytes = every (eqb (length word) (length bytes) ∷ begins word bytes ∷ [])

-- How many bytes stand before the first that is this one.
unfoldable pub bytes_before : ℕ → List ℕ → ℕ
bytes_before stop [] = 0
bytes_before stop (b ∷ bs) = pick (eqb b stop) 0 (suc (bytes_before stop bs))
