-- The invariant: the spans left decide as all of them do.
-- Assumes nothing.
use mathlib.Core.Path.{◌≡◌}
use Prim.Native.Nat.{◌+◌, ◌-◌, ◌*◌}
use Rattle.extended.specs.Layout.{point_size}
use Rattle.extended.specs.Points.{points_from, spans_right}
use Rattle.folding.proofs.spans.spans_right.Given as goal

abbrev pub invariant-loop-k : goal.invariant-loop-k
invariant-loop-k l = spans_right l.step (points_from l.file (l.at + point_size * l.k) (l.count - l.k)) ≡ spans_right l.step (points_from l.file l.at l.count)
