-- The invariant: the durations passed are laid from the front on.
-- Assumes nothing.
use mathlib.Core.Path.{◌≡◌}
use Prim.Native.Nat.{◌*◌, ◌≤◌}
use Rattle.ascii.specs.Laying.{Laid}
use Rattle.contents.specs.Limits.{event_size}
use Rattle.score.specs.Events.{durations_at}
use Rattle.score.specs.Encode.{duration_bytes}
use Rattle.extended.specs.Layout.{events_start}
use Rattle.unfolder.proofs.finishing.copy_durations.Given as goal

abbrev pub invariant-loop-i : goal.invariant-loop-i
invariant-loop-i l = (l.i ≤ l.count) × Laid l.initial.out 0 (duration_bytes (durations_at l.extended events_start l.i)) l.out l.at × (l.at ≡ event_size * l.i)
