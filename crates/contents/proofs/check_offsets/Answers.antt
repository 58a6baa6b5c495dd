-- Each early return is the first fault of the table; the tests before it have passed.
-- Assumes nothing.
use Rattle.contents.specs.Contents.{offsets_right}
use Rattle.contents.proofs.ContentsLaws.{places}
use Rattle.contents.proofs.check_offsets.Goals as goal

pub returns-then-o-ne-CONTENTS_SIZE : goal.returns-then-o-ne-CONTENTS_SIZE
unfolding offsets_right
returns-then-o-ne-CONTENTS_SIZE c = search places depth 9

pub returns-then-o-items_at : goal.returns-then-o-items_at
unfolding offsets_right
returns-then-o-items_at c = search places depth 9

pub returns-then-o-messages_at : goal.returns-then-o-messages_at
unfolding offsets_right
returns-then-o-messages_at c = search places depth 9

pub returns-then-o-text_at : goal.returns-then-o-text_at
unfolding offsets_right
returns-then-o-text_at c = search places depth 9

pub returns-then-size-size_of : goal.returns-then-size-size_of
unfolding offsets_right
returns-then-size-size_of c = search places depth 9

pub returns : goal.returns
unfolding offsets_right
returns c = search places depth 9
