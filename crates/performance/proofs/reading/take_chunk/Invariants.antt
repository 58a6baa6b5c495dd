-- At each turn a line is read on, and what is owed stays.
-- Assumes nothing.
use mathlib.Core.Path.{◌≡◌}
use Prim.Native.Nat.{◌-◌}
use lib.ListN.{length}
use Rattle.chunks.specs.Inner.{reading_of}
use Rattle.performance.proofs.ChunkSteps.{Taking}
use Rattle.performance.proofs.reading.take_chunk.Given as goal

abbrev pub invariant-loop-at : goal.invariant-loop-at
invariant-loop-at l = Taking l.file l.chunk (reading_of l.initial.mem l.initial.room l.initial.line l.initial.p) l.initial.p.lines l.mem l.room l.line l.out l.at l.p
    × (length l.mem ≡ length l.initial.mem) × (length l.room ≡ length l.initial.room) × (length l.line ≡ length l.initial.line) × (length l.out ≡ length l.initial.out)

abbrev pub decreases-loop-at : goal.decreases-loop-at
decreases-loop-at l = length l.chunk - l.at
