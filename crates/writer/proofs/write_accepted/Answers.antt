-- The text is made in bytes of the function's own, and what is told of their front is told of it.
-- Assumes nothing.
use mathlib.Core.Path.{sym}
use Prim.Native.Nat.{ℕ}
use lib.ListN.{length-replicate}
use Rattle.writer.proofs.TextSteps.{array-fits, front-fitted, front-left, fronts}
use Rattle.writer.proofs.write_accepted.Goals as goal

pub slice_bounds-put_text-end : goal.slice_bounds-put_text-end
slice_bounds-put_text-end c = sym (length-replicate {0} {A = ℕ} 262144 0)

pub put_text-size-requires : goal.put_text-size-requires
put_text-size-requires c = array-fits _ c.args.file.accepted

pub slice_bounds-text-end : goal.slice_bounds-text-end
slice_bounds-text-end c = search fronts

pub slice_bounds-put_whole-end : goal.slice_bounds-put_whole-end
slice_bounds-put_whole-end c = search fronts

pub put_whole-requires : goal.put_whole-requires
put_whole-requires c = search fronts

pub shape_of-room : goal.shape_of-room
shape_of-room c = search fronts

pub returns-clause-value : goal.returns-clause-value
returns-clause-value c = front-fitted _ _ _ _ c.put_text-size.ensures _ _ c.put_whole.ensures.value

pub returns-clause-room_after : goal.returns-clause-room_after
returns-clause-room_after c = front-left _ _ _ _ c.put_text-size.ensures _ _ _ c.put_whole.ensures.room_after
