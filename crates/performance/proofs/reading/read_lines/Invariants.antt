-- A run keeps the lengths of what it was lent, and reads no more lines than bytes.
-- Assumes nothing.
use mathlib.Core.Path.{◌≡◌}
use Prim.Native.Nat.{◌≤◌, ◌*◌}
use lib.ListN.{length}
use Rattle.lines.specs.Input.{kept_bytes}
use Rattle.playing.specs.Inner.{Asked}
use Rattle.performance.proofs.reading.read_lines.Given as goal

abbrev pub invariant-loop : goal.invariant-loop
invariant-loop g l = (kept_bytes ≤ length l.line) × (l.s.progress.have ≤ kept_bytes) × (l.s.progress.lines ≤ 4096 * l.counter) × (l.s.progress.grace ≡ l.grace) × Asked l.file l.s.progress.opened l.out
