-- The tests of the code are those of the definition, in its order.
-- Assumes nothing.
use borrow.Author.Rules.{rules}
use Rattle.folding.specs.Inner.{tables_right}
use Rattle.folding.proofs.TableSteps.{reads}
use Rattle.folding.proofs.offsets.tables_right.Goals as goal

pub read32-requires : goal.read32-requires
read32-requires c = search rules

pub returns-then-read32-ne-EXTENDED_CONTENTS : goal.returns-then-read32-ne-EXTENDED_CONTENTS
unfolding tables_right
returns-then-read32-ne-EXTENDED_CONTENTS c = search reads depth 9

pub read32-requires-2 : goal.read32-requires-2
read32-requires-2 c = search rules

pub items_start-requires : goal.items_start-requires
items_start-requires c = search rules

pub returns-then-read32-items_start : goal.returns-then-read32-items_start
unfolding tables_right
returns-then-read32-items_start c = search reads depth 9

pub read32-requires-3 : goal.read32-requires-3
read32-requires-3 c = search rules

pub messages_start-requires : goal.messages_start-requires
messages_start-requires c = search rules

pub returns-then-read32-messages_start : goal.returns-then-read32-messages_start
unfolding tables_right
returns-then-read32-messages_start c = search reads depth 9

pub read32-requires-4 : goal.read32-requires-4
read32-requires-4 c = search rules

pub text_start-requires : goal.text_start-requires
text_start-requires c = search rules

pub returns-then-read32-text_start : goal.returns-then-read32-text_start
unfolding tables_right
returns-then-read32-text_start c = search reads depth 9

pub read32-requires-5 : goal.read32-requires-5
read32-requires-5 c = search rules

pub points_start-requires : goal.points_start-requires
points_start-requires c = search rules

pub returns-then-read32-points_start : goal.returns-then-read32-points_start
unfolding tables_right
returns-then-read32-points_start c = search reads depth 9

pub whole_size-requires : goal.whole_size-requires
whole_size-requires c = search rules

pub returns : goal.returns
unfolding tables_right
returns c = search reads depth 9
