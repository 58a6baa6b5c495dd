-- "Each is sent as a message of its decimal digits, with a minus sign below 0".
use Rattle.std.specs.Prelude.{ℕ, suc, List, ◌∷◌, ℤ, pos, negsuc}
use Rattle.ascii.specs.Decimals.{decimal}

abbrev pub minus : ℕ
minus = 45

unfoldable pub digits : ℤ → List ℕ
digits (pos n) = decimal n
digits (negsuc n) = minus ∷ decimal (suc n)
