-- "A number has 1 to 10 digits". Leading zeros are fine within them.
use Rattle.std.specs.Prelude.{ℕ, ◌+◌, ◌-◌, ◌*◌, Bool, true, List, [], ◌∷◌, length, Option, Some, None}
use Rattle.base.specs.Tests.{pick, every, between}
use Rattle.ascii.specs.Words.{zero_digit, nine_digit}

abbrev pub most_digits : ℕ
most_digits = 10

-- The bytes of 0 to 9.
unfoldable pub is_digit : ℕ → Bool
is_digit b = between zero_digit nine_digit b

unfoldable pub all_digits : List ℕ → Bool
all_digits [] = true
all_digits (b ∷ bs) = every (is_digit b ∷ all_digits bs ∷ [])

unfoldable pub is_number : List ℕ → Bool
is_number bs = every (between 1 most_digits (length bs) ∷ all_digits bs ∷ [])

-- The value of digits, after those that make up sum.
unfoldable pub value_from : ℕ → List ℕ → ℕ
value_from sum [] = sum
value_from sum (b ∷ bs) = value_from (10 * sum + (b - zero_digit)) bs

unfoldable pub value : List ℕ → ℕ
value bs = value_from 0 bs

unfoldable pub number_of : List ℕ → Option ℕ
number_of bs = pick (is_number bs) (Some (value bs)) None
