-- "Event: 4 bytes, its duration in grains, 1 to 5,040,000."
use Rattle.std.specs.Prelude.{ℕ, zero, suc, ◌+◌, List, [], ◌∷◌}
use Rattle.base.specs.Tests.{between}
use Rattle.base.specs.Checks.{Check, fine, need, first_fault}
use Rattle.contents.specs.declared.Fault.{Fault}
use Rattle.contents.specs.declared.Fault.TheVariants.{BadEvent}
use Rattle.contents.specs.Limits.{event_size, longest}
use Rattle.contents.specs.Bytes.{u32_at}

-- The durations of the count events from the byte at on.
unfoldable pub durations_at : List ℕ → ℕ → ℕ → List ℕ
durations_at f at zero = []
durations_at f at (suc count) = u32_at f at ∷ durations_at f (at + event_size) count

-- 6: "an event's duration", at "its first byte". The first of them stands at the byte at.
unfoldable pub events_right : ℕ → List ℕ → Check Fault
events_right at [] = fine
events_right at (d ∷ ds) = first_fault (need (between 1 longest d) (BadEvent at) ∷ events_right (at + event_size) ds ∷ [])
