-- No more words changed than were passed. Assumes nothing.
use Rattle.std.proofs.Common.{◌≤◌}
use Rattle.session_hostile.proofs.show.changes.Given as goal

abbrev pub invariant-loop-at : goal.invariant-loop-at
invariant-loop-at l = l.count ≤ l.at
