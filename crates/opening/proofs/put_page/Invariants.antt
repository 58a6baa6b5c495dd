-- The invariant: the items that are left to write come to the same words as all of them did.
-- Assumes nothing.
use mathlib.Core.Path.{◌≡◌}
use mathlib.Core.List.{map}
use Prim.Native.Nat.{◌+◌, ◌-◌, ◌≤◌}
use lib.ListN.{length, drop}
use Rattle.score.specs.Piece.{decode}
use Rattle.fates.specs.Fields.{item_word}
use Rattle.session.specs.Layout.{page_at}
use Rattle.opening.specs.Opening.{with_words}
use Rattle.opening.proofs.put_page.Given as goal

abbrev pub invariant-loop-p : goal.invariant-loop-p
invariant-loop-p l = (length l.mem ≡ length l.initial.mem) × (with_words (page_at + l.p) (map item_word (drop l.p (decode l.file.bytes.now).items)) l.mem ≡ with_words page_at (map item_word (decode l.file.bytes.now).items) l.initial.mem)
