-- Nothing where the part is the one that stands, else its line.
-- Assumes nothing.
use Rattle.writer.proofs.PageSteps.{changes}
use Rattle.writer.proofs.pages.put_change.Goals as goal

pub overflow_add-part : goal.overflow_add-part
overflow_add-part c = search changes

pub returns-then-standing-part : goal.returns-then-standing-part
returns-then-standing-part c = search changes

pub put_part-requires : goal.put_part-requires
put_part-requires c = search changes

pub shape_of-out : goal.shape_of-out
shape_of-out c = search changes

pub returns : goal.returns
returns c = search changes
