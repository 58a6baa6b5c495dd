-- The page is that of the unfolded score.
-- Assumes nothing.
use Rattle.unfolder.proofs.NumberSteps.{pages}
use Rattle.unfolder.proofs.numbering.lay.Goals as goal

pub items_start-requires : goal.items_start-requires
items_start-requires c = search pages

pub slice_bounds-build_page-end : goal.slice_bounds-build_page-end
slice_bounds-build_page-end c = search pages

pub build_page-requires : goal.build_page-requires
build_page-requires c = (search pages, search pages, search pages, search pages, search pages, search pages, search pages)

pub slice_bounds-finish-end : goal.slice_bounds-finish-end
slice_bounds-finish-end c = search pages

pub finish-requires : goal.finish-requires
finish-requires c = (search pages, search pages)

pub shape_of-room : goal.shape_of-room
shape_of-room c = search pages

pub returns : goal.returns
returns c = search pages
