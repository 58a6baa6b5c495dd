-- A text as bytes.
use Rattle.std.specs.Prelude.{ℕ, List, [] as none, ◌∷◌ as ◌then◌}
use Prim.Native.Char.{code}
use Prim.Native.String.{String, [], ◌∷◌}

-- The bytes of a text in ASCII: each character's code.
abbrev pub bytes_of : String → List ℕ
bytes_of [] = none
bytes_of (c ∷ s) = code c then bytes_of s
