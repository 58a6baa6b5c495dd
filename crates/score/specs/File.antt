-- The file check. "Order of checks. File check: 3, 4, 5, then 6, 7 and 8 over the file from front to back", with 20 to 27 "where 7 stood".
use Rattle.std.specs.Prelude.{ℕ, ◌≡◌, List, [], ◌∷◌, length, leb}
use Rattle.base.specs.Checks.{Check, fine, need, first_fault}
use Rattle.contents.specs.declared.Fault.{Fault}
use Rattle.contents.specs.declared.Fault.TheVariants.{FileShort}
use Rattle.contents.specs.declared.Counts.{Counts}
use Rattle.contents.specs.Limits.{contents_size}
use Rattle.contents.specs.Contents.{offsets_of, counts_of, counts_right, offsets_right, events_at, messages_at}
use Rattle.items.specs.Items.{items_right}
use Rattle.messages.specs.Messages.{messages_right}
use Rattle.score.specs.Events.{events_right}
use Rattle.score.specs.Piece.{decode}

unfoldable pub bodies_right : List ℕ → Counts → Check Fault
bodies_right f c =
    first_fault (
    events_right events_at (decode f).durations
    ∷ items_right c (decode f).items
    ∷ messages_right f c (messages_at c) c.messages 0
    ∷ []
    )

-- 3: "file under 32 bytes"
unfoldable pub checked : List ℕ → Check Fault
checked f =
    let c = counts_of f in
    first_fault (
    need (leb contents_size (length f)) FileShort
    ∷ counts_right c
    ∷ offsets_right (offsets_of f) c (length f)
    ∷ bodies_right f c
    ∷ []
    )

-- A file that the check lets in.
pub record Accepted (f : List ℕ) : Type 0 where
  pub fine : checked f ≡ fine
