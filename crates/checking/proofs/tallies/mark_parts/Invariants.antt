-- The invariant: the marks so far, with those of the items left, are the marks of all of them.
-- Assumes nothing.
use mathlib.Core.Path.{◌≡◌}
use lib.ListN.{drop}
use Rattle.score.specs.Piece.{decode}
use Rattle.checking.specs.Inner.{marked}
use Rattle.checking.proofs.tallies.mark_parts.Given as goal

abbrev pub invariant-loop-p : goal.invariant-loop-p
invariant-loop-p l = marked l.marks (drop l.p (decode l.file.bytes.now).items) ≡ marked l.initial.marks (decode l.file.bytes.now).items
