-- Each table passed takes its size off the place; what is left, divided, is held against the count.
-- Assumes nothing.
use Rattle.contents.proofs.EntryLaws.{entering}
use Rattle.contents.proofs.entries.entry_at.Goals as goal

pub returns-then-at-lt-CONTENTS_SIZE : goal.returns-then-at-lt-CONTENTS_SIZE
returns-then-at-lt-CONTENTS_SIZE c = search entering

pub returns-then-past-c : goal.returns-then-past-c
returns-then-past-c c = search entering

pub returns-then-past-c-2 : goal.returns-then-past-c-2
returns-then-past-c-2 c = search entering

pub returns-then-past-c-3 : goal.returns-then-past-c-3
returns-then-past-c-3 c = search entering

pub returns : goal.returns
returns c = search entering
