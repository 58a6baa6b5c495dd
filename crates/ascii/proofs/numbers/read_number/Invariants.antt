-- The invariant: the digits left make of the sum so far what all of them make, and are digits where all of them are.
-- Assumes nothing.
use mathlib.Core.Path.{◌≡◌}
use Prim.Native.Nat.{◌^◌, ◌<◌}
use lib.ListN.{drop}
use Rattle.ascii.specs.Numbers.{all_digits, value_from, value}
use Rattle.ascii.proofs.numbers.read_number.Given as goal

abbrev pub invariant-loop-b : goal.invariant-loop-b
invariant-loop-b l = (l.sum < 10 ^ l.b-index) × (all_digits (drop l.b-index l.bytes) ≡ all_digits l.bytes) × (value_from l.sum (drop l.b-index l.bytes) ≡ value l.bytes)
