-- A number written in decimal digits, without leading zeros.
use Rattle.std.specs.Prelude.{ℕ, zero, suc, ◌+◌, ◌/◌, ◌%◌, List, [], ◌∷◌, ◌++◌, ltb}
use Rattle.base.specs.Tests.{pick}
use Rattle.ascii.specs.Words.{zero_digit}

-- Digits enough for 64 bits.
abbrev pub most_places : ℕ
most_places = 20

-- The digits of a number below 10 to the power of the places.
unfoldable pub digits_of : (places : ℕ) → ℕ → List ℕ
digits_of zero n = []
digits_of (suc k) n = pick (ltb n 10) ((zero_digit + n) ∷ []) (digits_of k (n / 10) ++ ((zero_digit + n % 10) ∷ []))

unfoldable pub decimal : ℕ → List ℕ
decimal n = digits_of most_places n
