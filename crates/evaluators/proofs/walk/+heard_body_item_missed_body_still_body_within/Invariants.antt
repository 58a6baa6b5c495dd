-- Heard and missed groups, what lies within them and their items, each by the step laws. The invariant of a walk: what is owed for the items that are left is
-- what was owed at first. The falling number is the levels and the items that are left, three times, and 2 for a group, 1 for its walk, 0 for an item. Assumes nothing.
use Prim.Native.Nat.{◌+◌, ◌-◌, ◌*◌, ◌≤◌}
use mathlib.Core.Path.{◌≡◌}
use lib.ListN.{length}
use Rattle.rules.specs.declared.Synchrony.TheVariants.{Loose as loose}
use Rattle.rules.specs.declared.ErrorWord.TheVariants.{Local as local}
use Rattle.rules.specs.Rules.{heard_group, missed_group, enter}
use Rattle.evaluators.specs.Inner.{latest_at, Lent, owed}
use Rattle.evaluators.proofs.walk.+heard_body_item_missed_body_still_body_within.Given as goal

abbrev pub decreases-heard_body : goal.decreases-heard_body
decreases-heard_body l = 3 * (l.levels + l.count) + 1

abbrev pub invariant-heard_body-loop-left : goal.invariant-heard_body-loop-left
invariant-heard_body-loop-left l =
    (length l.mem ≡ length l.initial.mem) × Lent l.t l.mem l.place l.left × (l.left ≤ l.count) × (l.date.0 ≤ latest_at l.place) × (l.initial.date.0 ≤ l.date.0)
    × (owed l.t (heard_group l.y l.e l.i l.initial.date.0) (l.date.0 - l.initial.date.0) l.mem l.levels l.place l.left ≡ owed l.t (heard_group l.y l.e l.i l.initial.date.0) 0 l.initial.mem l.levels l.at l.count)

abbrev pub decreases-heard_body-loop-left : goal.decreases-heard_body-loop-left
decreases-heard_body-loop-left l = l.left

abbrev pub decreases-item : goal.decreases-item
decreases-item l = 3 * (l.levels + l.count)

abbrev pub decreases-missed_body : goal.decreases-missed_body
decreases-missed_body l = 3 * (l.levels + l.count) + 1

abbrev pub invariant-missed_body-loop-left : goal.invariant-missed_body-loop-left
invariant-missed_body-loop-left l =
    (length l.mem ≡ length l.initial.mem) × Lent l.t l.mem l.place l.left × (l.left ≤ l.count) × (l.start.0 + l.after.0 ≤ latest_at l.place)
    × (owed l.t (missed_group l.y l.e l.j l.start.0) l.after.0 l.mem l.levels l.place l.left ≡ owed l.t (missed_group l.y l.e l.j l.start.0) 0 l.initial.mem l.levels l.at l.count)

abbrev pub decreases-missed_body-loop-left : goal.decreases-missed_body-loop-left
decreases-missed_body-loop-left l = l.left

abbrev pub decreases-still_body : goal.decreases-still_body
decreases-still_body l = 3 * (l.levels + l.count) + 1

abbrev pub invariant-still_body-loop-left : goal.invariant-still_body-loop-left
invariant-still_body-loop-left l =
    (length l.mem ≡ length l.initial.mem) × Lent l.t l.mem l.place l.left × (l.left ≤ l.count)
    × (owed l.t (enter l.f loose local) 0 l.mem l.levels l.place l.left ≡ owed l.t (enter l.f loose local) 0 l.initial.mem l.levels l.at l.count)

abbrev pub decreases-still_body-loop-left : goal.decreases-still_body-loop-left
decreases-still_body-loop-left l = l.left

abbrev pub decreases-within : goal.decreases-within
decreases-within l = 3 * (l.levels + l.count) + 2
