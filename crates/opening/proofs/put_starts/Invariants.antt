-- The invariant: the starts that are left to write come to the same words as all of them did.
-- Assumes nothing.
use mathlib.Core.Path.{◌≡◌}
use Prim.Native.Nat.{◌+◌, ◌-◌, ◌*◌, ◌≤◌}
use lib.ListN.{length, drop}
use Rattle.contents.specs.Limits.{longest}
use Rattle.score.specs.Piece.{decode}
use Rattle.session.specs.Layout.{starts_at}
use Rattle.opening.specs.Opening.{with_words, starts_of}
use Rattle.opening.proofs.put_starts.Given as goal

abbrev pub invariant-loop-k : goal.invariant-loop-k
invariant-loop-k l = (length l.mem ≡ length l.initial.mem) × (l.sum.0 ≤ longest * l.k) × (with_words (starts_at + 1 + l.k) (starts_of l.sum.0 (drop l.k (decode l.file.bytes.now).durations)) l.mem ≡ with_words (starts_at + 1) (starts_of 0 (decode l.file.bytes.now).durations) l.initial.mem)
