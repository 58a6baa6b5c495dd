-- The offsets read, held against the counts and the file's own length.
-- Assumes nothing.
use mathlib.Core.Path.{◌≡◌}
use Prim.Native.Nat.{ℕ}
use Rattle.std.specs.Prelude.{Result}
use Rattle.contents.specs.declared.Fault.{Fault}
use Rattle.contents.specs.declared.Counts.{Counts}
use Rattle.contents.specs.declared.Offsets.{Offsets}
use Rattle.contents.specs.Replies.{verdict_of}
use Rattle.contents.specs.Contents.{offsets_right}

offsets-told : (o p : Offsets) (c : Counts) (size : ℕ) (v : Result (Unit {0}) Fault) → o ≡ p → v ≡ verdict_of (offsets_right o c size) → v ≡ verdict_of (offsets_right p c size)
offsets-told o p c size v e q = rw e at q
