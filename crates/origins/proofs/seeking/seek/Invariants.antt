-- The invariant: what is looked for among the lines left is what was looked for among all of them.
-- Assumes nothing.
use Prim.Native.Nat.{◌-◌}
use lib.ListN.{length}
use Rattle.text.specs.declared.Stage.TheVariants.{Start}
use Rattle.text.specs.Grammar.{script}
use Rattle.origins.specs.Origins.{placed_lines}
use Rattle.origins.specs.Aims.{sought_in}
use Rattle.origins.proofs.SeekSteps.{Seeking}
use Rattle.origins.proofs.seeking.seek.Given as goal

abbrev pub invariant-loop-stage : goal.invariant-loop-stage
invariant-loop-stage l = Seeking l.text (sought_in l.initial.aim l.text (placed_lines Start l.text (script Start l.text))) l.at l.stage l.aim l.listed

abbrev pub decreases-loop-stage : goal.decreases-loop-stage
decreases-loop-stage l = length l.text - l.at
