-- The invariant: the values passed are laid, and the delay is the next one's.
-- Assumes nothing.
use mathlib.Core.Path.{◌≡◌}
use Prim.Native.Nat.{◌+◌, ◌*◌, ◌≤◌, ◌<◌}
use Rattle.ascii.specs.Laying.{Laid}
use Rattle.contents.specs.Limits.{item_size}
use Rattle.contents.specs.Bytes.{part}
use Rattle.extended.specs.Inner.{word_range}
use Rattle.unfolding.specs.Unfolded.{sends}
use Rattle.building.specs.Inner.{page_bytes, delay_of}
use Rattle.building.proofs.curves.build_values.Given as goal

abbrev pub invariant-loop-p : goal.invariant-loop-p
invariant-loop-p l = (l.p ≤ l.times) × Laid l.initial.out l.to (page_bytes (sends l.i l.step 0 (part l.numbers l.first l.p))) l.out l.at × (l.at ≡ l.to + item_size * l.p) × (l.delay ≡ delay_of 0 l.step l.p) × (l.delay < word_range)
