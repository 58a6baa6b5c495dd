-- Four words laid one behind the other are the row.
-- Assumes nothing.
use Rattle.tables.proofs.RowSteps.{row}
use Rattle.tables.proofs.rows.put_row.Goals as goal

pub put_word-at-requires : goal.put_word-at-requires
put_word-at-requires c = search row

pub put_word-at-requires-2 : goal.put_word-at-requires-2
put_word-at-requires-2 c = search row

pub put_word-at-requires-3 : goal.put_word-at-requires-3
put_word-at-requires-3 c = search row

pub put_word-requires : goal.put_word-requires
put_word-requires c = search row

pub shape_of-table : goal.shape_of-table
shape_of-table c = search row

pub returns : goal.returns
returns c = search row
