-- The walk meets its contract: a body is at least one level deeper than what holds it, so the levels left fall at each call. The invariant: what is told of the
-- items left, besides what was found, is what is told of all. Assumes nothing.
use mathlib.Core.Path.{◌≡◌}
use Prim.Native.Nat.{◌+◌, ◌-◌, ◌≤◌}
use Rattle.contents.specs.Limits.{most_items, most_actions, deepest}
use Rattle.shapes.specs.Shapes.{shapes_from, unfolded}
use Rattle.shapes.specs.Sizes.{told_from}
use Rattle.shapes.proofs.+size_items.Given as goal

abbrev pub decreases-size_items : goal.decreases-size_items
decreases-size_items l = deepest - l.depth

abbrev pub invariant-loop-left : goal.invariant-loop-left
invariant-loop-left l =
    (l.i + l.left ≡ l.at + l.count) × (l.left ≤ l.count) × (l.n ≤ most_items) × (l.a ≤ most_actions)
    × (told_from l.factor l.depth l.n l.a (unfolded (shapes_from l.words l.i l.left)) ≡ told_from l.factor l.depth l.items l.actions (unfolded (shapes_from l.words l.at l.count)))

abbrev pub decreases-loop-left : goal.decreases-loop-left
decreases-loop-left l = l.left
