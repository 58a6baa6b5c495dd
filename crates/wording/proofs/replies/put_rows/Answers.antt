use mathlib.Core.Path.{refl}
use Rattle.wording.specs.Words.{reply_rows}
use Rattle.wording.proofs.RowLaws.{rows_step, tabling}
use Rattle.wording.proofs.replies.put_rows.Goals as goal

pub loop-x-init : goal.loop-x-init
loop-x-init c = search tabling

pub put_row-end-requires : goal.put_row-end-requires
put_row-end-requires c = search tabling

pub loop-x-preserved : goal.loop-x-preserved
unfolding reply_rows
loop-x-preserved c = (rows_step _ _ _ _ _ c.loop-x.invariant.0 _ _ _ c.loop-x-test.true refl c.put_row-end.ensures.0, search tabling)

pub returns : goal.returns
returns c = search tabling
