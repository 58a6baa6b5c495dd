-- What is told of the whole table, standing once, under nothing and besides nothing.
-- Assumes nothing.
use Rattle.shapes.proofs.SizeSteps.{whole}
use Rattle.shapes.proofs.find_sizes.Goals as goal

pub size_items-requires : goal.size_items-requires
size_items-requires c = search whole

pub returns : goal.returns
returns c = search whole
