-- The row of no refusal comes first, and the others behind it.
-- Assumes nothing.
use Rattle.wording.proofs.RowLaws.{table}
use Rattle.wording.proofs.replies.reply_lines.Goals as goal

pub put_done-at-requires : goal.put_done-at-requires
put_done-at-requires c = search table

pub put_rows-requires : goal.put_rows-requires
put_rows-requires c = search table

pub shape_of-out : goal.shape_of-out
shape_of-out c = search table

pub returns : goal.returns
returns c = search table
