-- The file is made in bytes of its own.
-- Assumes nothing.
use borrow.Author.Rules.{rules}
use Rattle.unfolder.proofs.finishing.finish.Goals as goal

pub slice_bounds-make-end : goal.slice_bounds-make-end
slice_bounds-make-end c = search rules

pub make-requires : goal.make-requires
make-requires c = (search rules, search rules, search rules)

pub shape_of-room : goal.shape_of-room
shape_of-room c = search rules

pub returns : goal.returns
returns c = search rules
