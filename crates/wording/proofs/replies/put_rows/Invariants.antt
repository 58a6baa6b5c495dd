-- The invariant: the lines of the rows passed are laid behind the first `at` bytes, each within its room.
-- Assumes nothing.
use Prim.Native.Nat.{◌+◌, ◌*◌, ◌≤◌}
use lib.ListN.{take}
use Rattle.ascii.specs.Laying.{Laid}
use Rattle.wording.specs.Words.{reply_rows, row_lines, row_room}
use Rattle.wording.proofs.replies.put_rows.Given as goal

abbrev pub invariant-loop-x : goal.invariant-loop-x
invariant-loop-x l = Laid l.initial.out l.at (row_lines (take l.x-index reply_rows)) l.out l.end × (l.end ≤ l.at + l.x-index * row_room)
