-- The four bytes, the delay, the event and the last field.
-- Assumes nothing.
use Rattle.filing.proofs.LayingSteps.{items}
use Rattle.filing.proofs.rows.put_item.Goals as goal

pub returns : goal.returns
returns c = search items
