-- The parts of the file check in their order, in the code's own terms.
-- Assumes nothing.
use mathlib.Core.Path.{◌≡◌}
use mathlib.Core.List.{List, [], ◌∷◌}
use Prim.Native.Nat.{ℕ, ◌<◌, ◌≤◌}
use lib.ListN.{length}
use borrow.Author.Tests.{le-leb, lt-leb}
use borrow.Author.Rules.{rules}
use Rattle.std.specs.Prelude.{Result, Err}
use Rattle.base.specs.Checks.{first_fault}
use Rattle.contents.specs.declared.Fault.{Fault}
use Rattle.contents.specs.declared.Fault.TheVariants.{FileShort}
use Rattle.contents.specs.declared.Counts.{Counts}
use Rattle.contents.specs.Limits.{contents_size}
use Rattle.contents.specs.Replies.{verdict_of}
use Rattle.contents.specs.Contents.{counts_of, offsets_of, counts_right, offsets_right, events_at, items_at, messages_at}
use Rattle.items.specs.Items.{items_from, items_right}
use Rattle.messages.specs.Messages.{messages_right}
use Rattle.score.specs.Events.{durations_at, events_right}
use Rattle.score.specs.Piece.{decode}
use Rattle.score.specs.File.{bodies_right, checked}
use Rattle.contents.proofs.Verdicts.{verdict-pass, verdict-stop, told-last, told-fine, told-fault}
use Rattle.contents.proofs.ContentsLaws.{counts-told, sized-told}

-- ---- the bodies, read with the counts that the contents give

pub bodies-told : (f : List ℕ) (c : Counts) (r : Result (Unit {0}) Fault) → c ≡ counts_of f
    → r
    ≡ verdict_of (
    first_fault (
    events_right events_at (durations_at f events_at c.events)
    ∷ items_right c (items_from f (items_at c) c.items)
    ∷ messages_right f c (messages_at c) c.messages 0
    ∷ []
    )
    )
    → r ≡ verdict_of (bodies_right f c)
unfolding bodies_right decode
bodies-told f c r e q = rw (← e) q

pub ruleset bodies = (bodies-told, told-fine, told-fault, told-last)

-- ---- the whole file

pub file_short : (f : List ℕ) → length f < contents_size → Err FileShort ≡ verdict_of (checked f)
unfolding checked
file_short f p = verdict-stop _ FileShort _ (lt-leb contents_size (length f) p)

pub file-opened : (f : List ℕ) (c : Counts) (r : Result (Unit {0}) Fault) → contents_size ≤ length f → c ≡ counts_of f
    → r ≡ verdict_of (first_fault (counts_right c ∷ offsets_right (offsets_of f) c (length f) ∷ bodies_right f c ∷ []))
    → r ≡ verdict_of (checked f)
unfolding checked
file-opened f c r p e q = verdict-pass _ FileShort r _ (le-leb contents_size (length f) p) (rw e at q)

pub ruleset files = (counts-told, sized-told, told-fine, told-fault, told-last, file_short, file-opened, rules)
