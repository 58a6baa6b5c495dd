-- Where the label starts, then its length.
-- Assumes nothing.
use Rattle.filing.proofs.LayingSteps.{pairs}
use Rattle.filing.proofs.entries.put_entry.Goals as goal

pub returns : goal.returns
returns c = search pairs
