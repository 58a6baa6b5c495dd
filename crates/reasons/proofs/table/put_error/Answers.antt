-- The word is laid, and the number behind it.
-- Assumes nothing.
use Rattle.reasons.proofs.ReasonLaws.{errors}
use Rattle.reasons.proofs.table.put_error.Goals as goal

pub returns : goal.returns
returns c = search errors
