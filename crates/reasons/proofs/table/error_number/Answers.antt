-- A number that is not below 0 is told as it is.
-- Assumes nothing.
use Rattle.reasons.proofs.ReasonLaws.{error-from}
use Rattle.reasons.proofs.table.error_number.Goals as goal

pub returns : goal.returns
returns c = error-from c.args.error c.ranges.error _ _ c.try_from.ensures c.unwrap_or.ensures
