-- Number and words are laid one behind the other.
-- Assumes nothing.
use Rattle.wording.proofs.RowLaws.{lining}
use Rattle.wording.proofs.replies.put_row.Goals as goal

pub row_number-requires : goal.row_number-requires
row_number-requires c = search lining

pub put_figure-at-requires : goal.put_figure-at-requires
put_figure-at-requires c = search lining

pub put_byte-at-requires : goal.put_byte-at-requires
put_byte-at-requires c = search lining

pub put_row_words-at-requires : goal.put_row_words-at-requires
put_row_words-at-requires c = search lining

pub put_byte-requires : goal.put_byte-requires
put_byte-requires c = search lining

pub shape_of-out : goal.shape_of-out
shape_of-out c = search lining

pub returns : goal.returns
returns c = search lining
