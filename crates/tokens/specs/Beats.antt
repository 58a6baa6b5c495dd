-- "beats = number [ "/" number ] (no blank within)", in grains.
use Rattle.std.specs.Prelude.{ℕ, ◌*◌, ◌/◌, ◌%◌, ◌^◌, Bool, List, [], ◌∷◌, eqb, ltb}
use Rattle.base.specs.Tests.{pick, every}
use Rattle.tokens.specs.Bytes.{slash}
use Rattle.tokens.specs.Tokens.{Read, got, stop, onward, number}

-- "a beat is 5,040 grains"
abbrev pub grains_of_a_beat : ℕ
grains_of_a_beat = 5040

-- "numerator, denominator and the grains that come out are each below 2^32"
abbrev pub field : ℕ
field = 2 ^ 32

-- No "fraction with denominator 0 or not a whole number of grains".
unfoldable pub is_fraction : ℕ → ℕ → Bool
is_fraction n d = every (ltb 0 d ∷ eqb (n * grains_of_a_beat % d) 0 ∷ ltb (n * grains_of_a_beat / d) field ∷ [])

-- The grains of n / d, which was read from bs on. A fault is the fraction's first byte.
unfoldable pub valued : List ℕ → ℕ → ℕ → List ℕ → Read ℕ
valued bs n d left = pick (is_fraction n d) (got (n * grains_of_a_beat / d) left) (stop bs)

-- "[ "/" number ]": "a denominator too big for its field is at its own first byte, before the fraction is valued; .. `1/ 2` at the blank"
unfoldable pub fraction : List ℕ → ℕ → List ℕ → Read ℕ
fraction bs n [] = valued bs n 1 []
fraction bs n (b ∷ left) = pick (eqb b slash) (onward (number field left) (λ d rest. valued bs n d rest)) (valued bs n 1 (b ∷ left))

-- "beats = number [ "/" number ] (no blank within)"
unfoldable pub beats : List ℕ → Read ℕ
beats bs = onward (number field bs) (λ n left. fraction bs n left)
