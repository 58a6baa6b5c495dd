-- Each turn follows one link more, and the path that it leads to is no longer than any.
-- Assumes nothing.
use Prim.Native.Nat.{◌≤◌, ◌-◌}
use Rattle.links.proofs.following.find_in.Given as goal

abbrev pub invariant-loop-way : goal.invariant-loop-way
invariant-loop-way l = (l.at ≤ 4095) × (l.followed ≤ 40)

abbrev pub decreases-loop-way : goal.decreases-loop-way
decreases-loop-way l = 40 - l.followed
