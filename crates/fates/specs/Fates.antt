-- The event and the date of a fate, where it has them, and bounds on them.
use Rattle.std.specs.Prelude.{ℕ, ◌≤◌}
use Rattle.rules.specs.declared.Taken.{Taken}
use Rattle.rules.specs.declared.Taken.TheVariants.{Heard as heard, Missed as missed, Unsettled as unsettled}
use Rattle.rules.specs.declared.Fate.{Fate}
use Rattle.rules.specs.declared.Fate.TheVariants.{HeardAt as heard_at, MissedBy as missed_by, GroupsOnly as groups_only, Nothing as nothing, NotYet as not_yet}

unfoldable pub event_of : Fate → ℕ
event_of (heard_at i t) = i
event_of (missed_by j t) = j
event_of (groups_only j t) = j
event_of nothing = 0
event_of not_yet = 0

unfoldable pub date_of : Fate → ℕ
date_of (heard_at i t) = t.0
date_of (missed_by j t) = t.0
date_of (groups_only j t) = t.0
date_of nothing = 0
date_of not_yet = 0

unfoldable pub next_of : Taken → ℕ
next_of heard = 0
next_of (missed j) = j
next_of unsettled = 0

-- A fate whose event the words can be asked about, no later than a date.
pub record FateBounded (f : Fate) (latest : ℕ) : Type 0 where
  pub event : event_of f ≤ 256
  pub date : date_of f ≤ latest
