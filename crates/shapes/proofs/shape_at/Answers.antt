-- The words are read where the definition reads them.
-- Assumes nothing.
use borrow.Author.Rules.{rules}
use Rattle.shapes.proofs.SizeSteps.{reading}
use Rattle.shapes.proofs.shape_at.Goals as goal

pub overflow_mul-at : goal.overflow_mul-at
overflow_mul-at c = search rules

pub offset_bounds-words-at : goal.offset_bounds-words-at
offset_bounds-words-at c = search rules

pub bounds-words-at : goal.bounds-words-at
bounds-words-at c = search rules

pub offset_bounds-words-at-2 : goal.offset_bounds-words-at-2
offset_bounds-words-at-2 c = search rules

pub bounds-words-at-2 : goal.bounds-words-at-2
bounds-words-at-2 c = search rules

pub offset_bounds-words-at-3 : goal.offset_bounds-words-at-3
offset_bounds-words-at-3 c = search rules

pub bounds-words-at-3 : goal.bounds-words-at-3
bounds-words-at-3 c = search rules

pub returns : goal.returns
returns c = search reading
