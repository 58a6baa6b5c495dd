-- `future_date` is the later of an item's own date and E(j).
-- Assumes nothing.
use native.Mathlib.Omega.{arith}
use Rattle.rules.specs.Rules.{future_date}
use Rattle.fates.proofs.running.future_date.Goals as goal

pub returns : goal.returns
unfolding future_date
returns c = (omega (arith, c.max.ensures, c.start_of-start.ensures), omega (arith, c.max.ensures, c.start_of-start.ensures))
