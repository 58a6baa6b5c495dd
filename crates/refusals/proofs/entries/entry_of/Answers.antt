-- A refusal without a place, or a file without its contents, names no entry.
-- Assumes nothing.
use Rattle.refusals.proofs.EntryLaws.{placing}
use Rattle.refusals.proofs.entries.entry_of.Goals as goal

pub placed-requires : goal.placed-requires
placed-requires c = search placing

pub returns-then-not-placed : goal.returns-then-not-placed
returns-then-not-placed c = search placing

pub returns-then-file-lt-CONTENTS_SIZE : goal.returns-then-file-lt-CONTENTS_SIZE
returns-then-file-lt-CONTENTS_SIZE c = search placing

pub read_counts-requires : goal.read_counts-requires
read_counts-requires c = search placing

pub refusal_row-requires : goal.refusal_row-requires
refusal_row-requires c = search placing

pub entry_at-requires : goal.entry_at-requires
entry_at-requires c = search placing

pub returns : goal.returns
returns c = search placing
