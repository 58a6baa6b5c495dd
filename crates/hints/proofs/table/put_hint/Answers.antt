-- A row has its own words, and no row none.
-- Assumes nothing.
use Rattle.hints.proofs.TableLaws.{rows}
use Rattle.hints.proofs.table.put_hint.Goals as goal

pub returns-in-None : goal.returns-in-None
returns-in-None c = search rows
