-- The invariant: the bytes laid and those that are left are the label's.
-- Assumes nothing.
use mathlib.Core.Bool.{false}
use lib.ListN.{length}
use Rattle.tokens.proofs.CopySteps.{Copying}
use Rattle.tokens.proofs.labels.put_label.Given as goal

abbrev pub invariant-loop-rest : goal.invariant-loop-rest
invariant-loop-rest l = Copying l.text l.at l.initial.out l.to l.out false l.rest l.next

abbrev pub decreases-loop-rest : goal.decreases-loop-rest
decreases-loop-rest l = length l.rest
