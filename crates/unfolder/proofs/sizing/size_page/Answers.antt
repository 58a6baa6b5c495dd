-- What breaks a limit is told, and the rest goes on.
-- Assumes nothing.
use Rattle.unfolder.proofs.SizeSteps.{sizes}
use Rattle.unfolder.proofs.sizing.size_page.Goals as goal

pub returns-in_default : goal.returns-in_default
returns-in_default c = search sizes

pub returns-in_default-find_sizes : goal.returns-in_default-find_sizes
returns-in_default-find_sizes c = search sizes

pub number-requires : goal.number-requires
number-requires c = search sizes

pub shape_of-table : goal.shape_of-table
shape_of-table c = search sizes

pub shape_of-room : goal.shape_of-room
shape_of-room c = search sizes

pub returns : goal.returns
returns c = search sizes

pub fill_table-requires : goal.fill_table-requires
fill_table-requires c = search sizes
