-- Within the text, and the same bytes.
-- Assumes nothing.
use Rattle.naming.proofs.SearchSteps.{comparing}
use Rattle.naming.proofs.searches.is_named.Goals as goal

pub read16-start-requires : goal.read16-start-requires
read16-start-requires c = search comparing

pub overflow_add-at : goal.overflow_add-at
overflow_add-at c = search comparing

pub read16-size-requires : goal.read16-size-requires
read16-size-requires c = search comparing

pub overflow_add-end : goal.overflow_add-end
overflow_add-end c = search comparing

pub returns-then-text-end : goal.returns-then-text-end
returns-then-text-end c = search comparing

pub slice_bounds-same-count : goal.slice_bounds-same-count
slice_bounds-same-count c = search comparing

pub slice_bounds-same-start : goal.slice_bounds-same-start
slice_bounds-same-start c = search comparing

pub slice_bounds-same-end : goal.slice_bounds-same-end
slice_bounds-same-end c = search comparing

pub same-requires : goal.same-requires
same-requires c = search comparing

pub returns : goal.returns
returns c = search comparing
