-- The invariant: the parts passed are laid by their marks, each in three bytes at most.
-- Assumes nothing.
use Prim.Native.Nat.{◌+◌, ◌*◌, ◌≤◌}
use Rattle.ascii.specs.Laying.{Laid}
use Rattle.checking.specs.Inner.{marks_told, part_room}
use Rattle.checking.proofs.parts.put_marked.Given as goal

abbrev pub invariant-loop-k : goal.invariant-loop-k
invariant-loop-k l = (l.next ≤ l.at + part_room * l.k) × Laid l.initial.out l.at (marks_told l.marks l.k) l.out l.next
