-- The loop ends: less of the script is left. Assumes nothing.
use Rattle.std.proofs.Common.{◌-◌, length}
use Rattle.session_hostile.proofs.run.Given as goal

abbrev pub decreases-loop-at : goal.decreases-loop-at
decreases-loop-at l = length l.script - l.at
