-- What is answered of an extended score: "17 for bad contents (place 0) or a bad loop or curve (its first byte)".
use Rattle.std.specs.Prelude.{ℕ, Result, Ok, Err}
use Rattle.base.specs.Checks.{Check, fine, refused}

unfoldable pub folding_of : Check ℕ → Result (Unit {0}) ℕ
folding_of fine = Ok tt
folding_of (refused place) = Err place
