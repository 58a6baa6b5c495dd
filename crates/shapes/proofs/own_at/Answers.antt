-- The item is read, and its own sizes are those of the definition.
-- Assumes nothing.
use borrow.Author.Rules.{rules}
use Rattle.shapes.proofs.SizeSteps.{owning}
use Rattle.shapes.proofs.own_at.Goals as goal

pub shape_at-requires : goal.shape_at-requires
shape_at-requires c = search rules

pub own_of-requires : goal.own_of-requires
own_of-requires c = search rules

pub returns : goal.returns
returns c = search owning
