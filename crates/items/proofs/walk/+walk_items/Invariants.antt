-- The walk meets its contract: the items of a group are fewer than those of what holds it, so the count falls at each call. The invariant: what the
-- items left are found to be is what all of them are found to be. Assumes nothing.
use mathlib.Core.Path.{◌≡◌}
use Prim.Native.Nat.{◌+◌, ◌*◌, ◌≤◌}
use lib.ListN.{length}
use Rattle.contents.specs.Limits.{item_size, most_actions}
use Rattle.items.specs.Items.{items_from, walked}
use Rattle.items.proofs.walk.+walk_items.Given as goal

abbrev pub decreases-walk_items : goal.decreases-walk_items
decreases-walk_items l = l.count

abbrev pub invariant-loop-left : goal.invariant-loop-left
invariant-loop-left l =
    (l.i + item_size * l.left ≤ length l.file) × (l.left ≤ l.count) × (l.n ≤ most_actions)
    × (walked l.c l.i (items_from l.file l.i l.left) (record { depth = l.depth; event = l.event; part = l.part }) l.n
    ≡ walked l.c l.at (items_from l.file l.at l.count) (record { depth = l.depth; event = l.initial.event; part = l.initial.part }) l.actions)

abbrev pub decreases-loop-left : goal.decreases-loop-left
decreases-loop-left l = l.left
