-- How the code holds a signed 32-bit number without a sign, and what its functions ask. No promise of a call needs it.
use Rattle.std.specs.Prelude.{ℕ, ◌*◌, ◌<◌, ℤ}
use Rattle.std.proofs.Math.IntN.{sub_ℕ}
use Rattle.values.specs.Integers.{whole_range, half_range}

-- A raised number stands for the value that is half_range below it: 0 for the least value, half_range for 0.
unfoldable pub value_of : ℕ → ℤ
value_of r = sub_ℕ r half_range

-- Two raised values, a span of 32 bits, and a place before its end.
pub record Within (v w step d j : ℕ) : Type 0 where
  pub first : v < whole_range
  pub second : w < whole_range
  pub span : d < whole_range
  pub place : j * step < d

-- A value's digits and sign: so many bytes at most, and room for them.
abbrev pub most_digits : ℕ
most_digits = 11

abbrev pub digit_room : ℕ
digit_room = 24
