-- "lines from 1, columns in bytes from 1"; "Only newline (byte 10) ends a line."
use Rattle.std.specs.Prelude.{ℕ, ◌+◌, List, [], ◌∷◌, eqb}
use Rattle.base.specs.Tests.{pick}
use Rattle.ascii.specs.Words.{newline}
use Rattle.tokens.specs.declared.Place.{Place}

-- Where the byte behind these stands, the first of them standing at this line and column: "after a newline: the next line, column 1".
unfoldable pub place_from : (line column : ℕ) → List ℕ → Place
place_from line column [] = record { line = line; column = column }
place_from line column (b ∷ bs) = pick (eqb b newline) (place_from (line + 1) 1 bs) (place_from line (column + 1) bs)

-- "line and column: lines from 1, columns in bytes from 1". Of a fault at byte n of a text it is asked for the n bytes before it.
unfoldable pub place_behind : List ℕ → Place
place_behind bs = place_from 1 1 bs
