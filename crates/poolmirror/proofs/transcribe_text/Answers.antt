-- The room is as long as it was made.
-- Assumes nothing.
use mathlib.Core.Path.{sym}
use Prim.Native.Nat.{ℕ}
use lib.ListN.{length-replicate}
use Rattle.poolmirror.proofs.transcribe_text.Goals as goal

pub slice_bounds-transcribe_file-end : goal.slice_bounds-transcribe_file-end
slice_bounds-transcribe_file-end g c = sym (length-replicate {0} {A = ℕ} 4194305 0)
