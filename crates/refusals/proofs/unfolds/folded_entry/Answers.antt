-- Behind the events an item, before them none.
-- Assumes nothing.
use Rattle.refusals.proofs.UnfoldLaws.{folded-entries}
use Rattle.refusals.proofs.unfolds.folded_entry.Goals as goal

pub returns-then-extended-lt-EXTENDED_CONTENTS : goal.returns-then-extended-lt-EXTENDED_CONTENTS
returns-then-extended-lt-EXTENDED_CONTENTS c = search folded-entries

pub extent_of-c-requires : goal.extent_of-c-requires
extent_of-c-requires c = search folded-entries

pub items_start-start-requires : goal.items_start-start-requires
items_start-start-requires c = search folded-entries

pub returns-then-place-start : goal.returns-then-place-start
returns-then-place-start c = search folded-entries

pub returns : goal.returns
returns c = search folded-entries
