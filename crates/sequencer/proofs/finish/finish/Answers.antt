-- What is sent is counted, and the four words of the header are set.
-- Assumes nothing.
use native.Mathlib.Omega.{arith}
use lib.ListN.{length-set}
use borrow.Author.Rules.{rules}
use Rattle.sequencer.proofs.CallLaws.{finished-by}
use Rattle.sequencer.proofs.finish.finish.Goals as goal

pub returns : goal.returns
returns c = search finished-by
