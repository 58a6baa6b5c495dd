-- The lines of an input: "A line ends at a newline byte or the input's end; nothing after the last newline is no line."
use Rattle.std.specs.Prelude.{ℕ, List, [], ◌∷◌, ◌++◌, eqb}
use Rattle.base.specs.Tests.{pick}
use Rattle.ascii.specs.Words.{newline}

-- "nothing after the last newline is no line"
unfoldable pub last_line : List ℕ → List (List ℕ)
last_line [] = []
last_line (b ∷ bs) = (b ∷ bs) ∷ []

-- "A line ends at a newline byte or the input's end". The first line has begun with these bytes.
unfoldable pub lines_from : (begun input : List ℕ) → List (List ℕ)
lines_from begun [] = last_line begun
lines_from begun (b ∷ bs) = pick (eqb b newline) (begun ∷ lines_from [] bs) (lines_from (begun ++ (b ∷ [])) bs)

unfoldable pub lines_of : List ℕ → List (List ℕ)
lines_of input = lines_from [] input
