-- The invariant: what the events left are found to be is what all of them are found to be.
-- Assumes nothing.
use Prim.Native.Nat.{◌+◌, ◌-◌, ◌*◌}
use mathlib.Core.Path.{◌≡◌}
use Rattle.contents.specs.Limits.{event_size}
use Rattle.contents.specs.Contents.{events_at}
use Rattle.score.specs.Events.{durations_at, events_right}
use Rattle.score.proofs.events.check_events.Given as goal

abbrev pub invariant-loop-k : goal.invariant-loop-k
invariant-loop-k l =
    events_right (events_at + event_size * l.k) (durations_at l.file (events_at + event_size * l.k) (l.fn.c.events - l.k)) ≡ events_right events_at (durations_at l.file events_at l.fn.c.events)
