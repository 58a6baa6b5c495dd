-- The invariant: the bytes passed are as they are shown, and the others as they were.
-- Assumes nothing.
use mathlib.Core.Path.{◌≡◌}
use mathlib.Core.List.{map}
use lib.ListN.{length, take, drop}
use Rattle.orders.specs.Said.{shown_byte}
use Rattle.orders.proofs.said.show_bytes.Given as goal

abbrev pub invariant-loop-b : goal.invariant-loop-b
invariant-loop-b l = (take l.b-index l.b-items ≡ map shown_byte (take l.b-index l.initial.b-items)) × (drop l.b-index l.b-items ≡ drop l.b-index l.initial.b-items)
