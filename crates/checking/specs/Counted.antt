-- A number and what it counts, as `3 events, `.
use Rattle.std.specs.Prelude.{ℕ, List, ◌++◌}
use Prim.Native.String.{String}
use Rattle.ascii.specs.Decimals.{decimal}
use Rattle.ascii.specs.Text.{bytes_of}

abbrev pub counted : ℕ → String → List ℕ
counted n what = decimal n ++ bytes_of what
