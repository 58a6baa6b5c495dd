-- `missed_top` walks a sequence that is missed item by item. The invariant: what is owed for the items that are left is what was owed at first.
-- The measure is how many are left. Assumes nothing.
use mathlib.Core.Path.{◌≡◌}
use Prim.Native.Nat.{◌-◌, ◌≤◌}
use lib.ListN.{length}
use Rattle.rules.specs.Rules.{missed_top}
use Rattle.rules.specs.Page.{levels}
use Rattle.evaluators.specs.Inner.{latest_at, Lent, owed}
use Rattle.evaluators.proofs.runs.missed_top.Given as goal

abbrev pub invariant-loop-left : goal.invariant-loop-left
invariant-loop-left l = (length l.mem ≡ length l.initial.mem) × Lent l.t l.mem l.place l.left × (l.left ≤ l.count) × (l.date.0 ≤ latest_at l.place) × (l.initial.date.0 ≤ l.date.0)
    × (owed l.t (missed_top l.j l.initial.date.0) (l.date.0 - l.initial.date.0) l.mem levels l.place l.left ≡ owed l.t (missed_top l.j l.initial.date.0) 0 l.initial.mem levels l.at l.count)

abbrev pub decreases-loop-left : goal.decreases-loop-left
decreases-loop-left l = l.left
