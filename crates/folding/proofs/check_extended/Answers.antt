-- Each answer is that of the earlier of the two first faults, and of the points left over where there is none.
-- Assumes nothing.
use Rattle.folding.proofs.CheckSteps.{checking}
use Rattle.folding.proofs.check_extended.Goals as goal

pub contents_right-requires : goal.contents_right-requires
contents_right-requires c = search checking

pub returns-then-not-contents_right : goal.returns-then-not-contents_right
returns-then-not-contents_right c = search checking

pub extent_of-c-requires : goal.extent_of-c-requires
extent_of-c-requires c = search checking

pub first_wrong-w-requires : goal.first_wrong-w-requires
first_wrong-w-requires c = search checking

pub first_overrun-k-requires : goal.first_overrun-k-requires
first_overrun-k-requires c = search checking

pub items_start-requires : goal.items_start-requires
items_start-requires c = search checking

pub overflow_mul-result : goal.overflow_mul-result
overflow_mul-result c = search checking

pub overflow_add-result : goal.overflow_add-result
overflow_add-result c = search checking

pub returns-then-k-c : goal.returns-then-k-c
returns-then-k-c c = search checking

pub returns-then-w-ne0 : goal.returns-then-w-ne0
returns-then-w-ne0 c = search checking

pub returns : goal.returns
returns c = search checking
