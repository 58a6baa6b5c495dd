-- Signed numbers: a quotient rounded down, and the value of 32 bits.
use Rattle.std.specs.Prelude.{ℕ, ◌/◌, ltb, ℤ, pos, negsuc}
use Rattle.std.proofs.Math.IntN.{sub_ℕ}
use Rattle.base.specs.Tests.{pick}

-- "floor goes down, below 0 too": -(n + 1) lies between -(n / d + 1) times d and the multiple above it.
unfoldable pub floor_div : ℤ → ℕ → ℤ
floor_div (pos n) d = pos (n / d)
floor_div (negsuc n) d = negsuc (n / d)

-- All 32-bit values, and those of one sign.
abbrev pub whole_range : ℕ
whole_range = 4294967296

abbrev pub half_range : ℕ
half_range = 2147483648

-- "value (i32)": a number's 32 bits, those from half_range on being below 0.
unfoldable pub from_bits : ℕ → ℤ
from_bits b = pick (ltb b half_range) (pos b) (sub_ℕ b whole_range)
