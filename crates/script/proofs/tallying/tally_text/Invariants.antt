-- The invariant: what the lines left come to, after those counted, is what all of them come to.
-- Assumes nothing.
use Prim.Native.Nat.{◌-◌}
use lib.ListN.{length}
use Rattle.script.proofs.TallySteps.{Tallying}
use Rattle.script.proofs.tallying.tally_text.Given as goal

abbrev pub invariant-loop-stage : goal.invariant-loop-stage
invariant-loop-stage l = Tallying l.text l.at l.stage l.counts

abbrev pub decreases-loop-stage : goal.decreases-loop-stage
decreases-loop-stage l = length l.text - l.at
