-- Values worked out by the definitions: rounded down on both sides of 0, at the ends of 32 bits, and as digits.
-- Assumes nothing.
use mathlib.Core.Path.{◌≡◌, refl}
use mathlib.Core.List.{[], ◌∷◌, map}
use lib.IntN.{pos, negsuc}
use Rattle.base.specs.Tests.{pick}
use Rattle.ascii.specs.Decimals.{digits_of, decimal}
use Rattle.values.specs.Integers.{floor_div, from_bits}
use Rattle.values.specs.Curves.{curve_value}
use Rattle.values.specs.Digits.{digits}
use Rattle.values.specs.Inner.{value_of}

-- from 0 up to 10 and down to -10, in 3 steps of 1 grain
pub thirds-up : map (curve_value (pos 0) (pos 10) 1 3) (0 ∷ 1 ∷ 2 ∷ 3 ∷ []) ≡ pos 0 ∷ pos 3 ∷ pos 6 ∷ pos 10 ∷ []
unfolding curve_value floor_div
thirds-up = refl

pub thirds-down : map (curve_value (pos 0) (negsuc 9) 1 3) (0 ∷ 1 ∷ 2 ∷ 3 ∷ []) ≡ pos 0 ∷ negsuc 3 ∷ negsuc 6 ∷ negsuc 9 ∷ []
unfolding curve_value floor_div
thirds-down = refl

-- from the least value to the greatest and back, one grain before the end of the longest span
pub longest-up : curve_value (negsuc 2147483647) (pos 2147483647) 1 4294967295 4294967294 ≡ pos 2147483646
unfolding curve_value floor_div
longest-up = refl

pub longest-down : curve_value (pos 2147483647) (negsuc 2147483647) 1 4294967295 4294967294 ≡ negsuc 2147483646
unfolding curve_value floor_div
longest-down = refl

-- 32 bits read as a value, as the code holds it and as the formula has it
pub bits-read : map from_bits (0 ∷ 2147483647 ∷ 2147483648 ∷ 4294967295 ∷ []) ≡ pos 0 ∷ pos 2147483647 ∷ negsuc 2147483647 ∷ negsuc 0 ∷ []
unfolding from_bits pick
bits-read = refl

pub raised-read : map value_of (0 ∷ 2147483647 ∷ 2147483648 ∷ 4294967295 ∷ []) ≡ negsuc 2147483647 ∷ negsuc 0 ∷ pos 0 ∷ pos 2147483647 ∷ []
unfolding value_of
raised-read = refl

-- `0`, `-1`, `-2147483648`
pub digits-0 : digits (pos 0) ≡ 48 ∷ []
unfolding pick digits_of decimal digits
digits-0 = refl

pub digits-1-below : digits (negsuc 0) ≡ 45 ∷ 49 ∷ []
unfolding pick digits_of decimal digits
digits-1-below = refl

pub digits-least : digits (negsuc 2147483647) ≡ 45 ∷ 50 ∷ 49 ∷ 52 ∷ 55 ∷ 52 ∷ 56 ∷ 51 ∷ 54 ∷ 52 ∷ 56 ∷ []
unfolding pick digits_of decimal digits
digits-least = refl
