-- A file under 40 bytes is refused; of the others the offsets and the length decide.
-- Assumes nothing.
use Rattle.folding.proofs.TableSteps.{tables}
use Rattle.folding.proofs.offsets.contents_right.Goals as goal

pub returns-then-file-lt-EXTENDED_CONTENTS : goal.returns-then-file-lt-EXTENDED_CONTENTS
returns-then-file-lt-EXTENDED_CONTENTS c = search tables

pub extent_of-c-requires : goal.extent_of-c-requires
extent_of-c-requires c = search tables

pub tables_right-requires : goal.tables_right-requires
tables_right-requires c = search tables

pub returns : goal.returns
returns c = search tables
