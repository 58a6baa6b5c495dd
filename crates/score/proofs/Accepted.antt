-- What an accepted file says: its size, and that each body is right.
-- From no fault at all to no fault in each part. Assumes nothing.
use mathlib.Core.Path.{◌≡◌}
use mathlib.Core.List.{List}
use Prim.Native.Nat.{ℕ, ◌≤◌, ◌<◌}
use native.Mathlib.Omega.{arith}
use lib.ListN.{length}
use borrow.Author.Tests.{leb-true}
use Rattle.std.specs.Prelude.{Result, Ok}
use Rattle.base.specs.Checks.{fine}
use Rattle.base.proofs.CheckLaws.{first_head, first_rest, first_holds}
use Rattle.contents.specs.declared.Fault.{Fault}
use Rattle.contents.specs.Limits.{contents_size}
use Rattle.contents.specs.Replies.{verdict_of}
use Rattle.contents.specs.Contents.{counts_of, offsets_of, counts_right, offsets_right, events_at, messages_at}
use Rattle.contents.specs.Inner.{Sized}
use Rattle.items.specs.Items.{outset, items_right}
use Rattle.messages.specs.Messages.{messages_right}
use Rattle.score.specs.Events.{events_right}
use Rattle.score.specs.Piece.{decode}
use Rattle.score.specs.File.{bodies_right, checked, Accepted}
use Rattle.contents.proofs.Verdicts.{verdict-fine}
use Rattle.contents.proofs.ContentsLaws.{counts-held, offsets-held}
use Rattle.items.proofs.Walked.{Walked, table-walked}

-- what a caller of the check knows
pub accepted-told : (f : List ℕ) (v : Result (Unit {0}) Fault) → v ≡ verdict_of (checked f) → v ≡ Ok tt → Accepted f
accepted-told f v e p = record { fine = verdict-fine (checked f) v e p }

module _ (f : List ℕ) (accepted : Accepted f) where
  pub file-long : contents_size ≤ length f
  unfolding checked
  file-long = leb-true _ _ (first_holds _ _ _ accepted.fine)

  pub file-counts : counts_right (counts_of f) ≡ fine
  unfolding checked
  file-counts = first_head _ _ (first_rest _ _ accepted.fine)

  pub file-offsets : offsets_right (offsets_of f) (counts_of f) (length f) ≡ fine
  unfolding checked
  file-offsets = first_head _ _ (first_rest _ _ (first_rest _ _ accepted.fine))

  pub file-sized : Sized (counts_of f) (length f)
  unfolding checked
  file-sized =
      record {
        counted = counts-held (counts_of f) file-counts;
        whole = (offsets-held (offsets_of f) (counts_of f) (length f) file-offsets).whole;
      }

  file-bodies : bodies_right f (counts_of f) ≡ fine
  unfolding checked
  file-bodies = first_head _ _ (first_rest _ _ (first_rest _ _ (first_rest _ _ accepted.fine)))

  pub file-events : events_right events_at (decode f).durations ≡ fine
  unfolding bodies_right
  file-events = first_head _ _ file-bodies

  pub file-items : items_right (counts_of f) (decode f).items ≡ fine
  unfolding bodies_right
  file-items = first_head _ _ (first_rest _ _ file-bodies)

  pub file-messages : messages_right f (counts_of f) (messages_at (counts_of f)) (counts_of f).messages 0 ≡ fine
  unfolding bodies_right
  file-messages = first_head _ _ (first_rest _ _ (first_rest _ _ file-bodies))

-- the first event is there
pub some-event : (f : List ℕ) → Accepted f → 0 < (counts_of f).events
some-event f a = let s = (file-sized f a).counted.some in omega arith

-- each item is right where it stands
pub accepted-walked : (f : List ℕ) → Accepted f → (m : ℕ) × Walked (counts_of f) outset 0 (decode f).items m
accepted-walked f a = table-walked (counts_of f) (decode f).items (file-items f a)
