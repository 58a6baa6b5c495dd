-- The room is as long as it was made.
-- Assumes nothing.
use mathlib.Core.Path.{sym}
use Prim.Native.Nat.{ℕ}
use lib.ListN.{length-replicate}
use Rattle.poolmirror.proofs.write.Goals as goal

pub slice_bounds-write_into-end : goal.slice_bounds-write_into-end
slice_bounds-write_into-end c = sym (length-replicate {0} {A = ℕ} 262144 0)
