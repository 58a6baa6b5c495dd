-- The file check as it was before document 02 (vi), when every item at fault got 7 at its first byte, and what became of its replies. Where7Stood holds the two against each other.
-- No promise of a call needs it.
use Rattle.std.specs.Prelude.{ℕ, zero, suc, ◌+◌, ◌*◌, ◌<◌, ◌≤◌, ◌≡◌, Bool, List, [], ◌∷◌, length, take, drop, leb, eqb}
use Rattle.page.specs.declared.Item.{Item}
use Rattle.base.specs.Tests.{pick, every}
use Rattle.base.specs.Checks.{Check, fine, refused, need, first_fault, renamed}
use Rattle.contents.specs.declared.Fault.TheVariants.{FileShort}
use Rattle.contents.specs.declared.Counts.{Counts}
use Rattle.contents.specs.declared.Reply.{Reply}
use Rattle.contents.specs.Limits.{contents_size, item_size}
use Rattle.contents.specs.Contents.{offsets_of, counts_of, counts_right, offsets_right, events_at, items_at, messages_at}
use Rattle.contents.specs.Replies.{fault_row}
use Rattle.items.specs.declared.Setting.{Setting}
use Rattle.items.specs.Items.{is_action, kind_right, part_right, delay_right, event_right, nesting_right, number_right, actions_right, within_of, own_of, next, inside, outset}
use Rattle.messages.specs.Messages.{messages_right}
use Rattle.score.specs.Events.{events_right}
use Rattle.score.specs.Piece.{decode}

-- ---- one item

-- "For an action both words are 0"
unfoldable pub words_before : Item → Bool
words_before i =
    pick (is_action i)
    (every (eqb i.synchrony 0 ∷ eqb i.error 0 ∷ []))
    (every (leb i.synchrony 1 ∷ leb i.error 3 ∷ []))

-- Not "an item against the rules; also the 1,025th action".
unfoldable pub right_before : Item → Counts → Setting → ℕ → ℕ → Bool
right_before i c h left actions =
    every (
    kind_right i
    ∷ words_before i
    ∷ part_right i h
    ∷ delay_right i
    ∷ event_right i c h
    ∷ nesting_right i h left
    ∷ number_right i c
    ∷ actions_right i actions
    ∷ []
    )

-- ---- the table

-- How many actions there are, or the first byte of the first item that is wrong.
pub data WalkBefore : Type 0 where
  counted : ℕ → WalkBefore
  wrong_at : ℕ → WalkBefore

unfoldable pub onward_before : WalkBefore → (ℕ → WalkBefore) → WalkBefore
onward_before (counted n) more = more n
onward_before (wrong_at at) more = wrong_at at

unfoldable pub walk_before : ℕ → Counts → ℕ → List Item → Setting → ℕ → WalkBefore
walk_before zero c at is h actions = counted actions
walk_before (suc n) c at [] h actions = counted actions
walk_before (suc n) c at (i ∷ is) h actions =
    pick (right_before i c h (length is) actions)
    (onward_before (walk_before n c (at + item_size) (take (within_of i) is) (inside i h) (actions + own_of i))
    (λ m. walk_before n c (at + item_size + item_size * within_of i) (drop (within_of i) is) (next i h) m))
    (wrong_at at)

-- 7, at "its first byte"
unfoldable pub told7 : WalkBefore → Check Reply
told7 (counted n) = fine
told7 (wrong_at at) = refused (record { number = 7; place = at })

unfoldable pub items_before : Counts → List Item → Check Reply
items_before c is = told7 (walk_before (length is) c (items_at c) is outset 0)

-- ---- the file

-- "File check: 3, 4, 5, then 6, 7 and 8 over the file from front to back."
unfoldable pub bodies_before : List ℕ → Counts → Check Reply
bodies_before f c =
    first_fault (
    renamed fault_row (events_right events_at (decode f).durations)
    ∷ items_before c (decode f).items
    ∷ renamed fault_row (messages_right f c (messages_at c) c.messages 0)
    ∷ []
    )

unfoldable pub checked_before : List ℕ → Check Reply
checked_before f =
    let c = counts_of f in
    first_fault (
    need (leb contents_size (length f)) (fault_row FileShort)
    ∷ renamed fault_row (counts_right c)
    ∷ renamed fault_row (offsets_right (offsets_of f) c (length f))
    ∷ bodies_before f c
    ∷ []
    )

-- ---- what became of a reply

-- "Refusals: 20 to 27 in that order, where 7 stood": what was accepted is, a refusal that was not 7 is the same, and 7 at b is 20 to 27 within the twelve bytes from b on.
pub data Split {X : Type 0} (row : X → Reply) : (before : Check Reply) (now : Check X) → Type 0 where
  accepted : Split row fine fine
  kept : {x : X} → ((row x).number ≡ 7 → ⊥) → Split row (refused (row x)) (refused x)
  split : {x : X} {b : ℕ} → 20 ≤ (row x).number → (row x).number ≤ 27 → b ≤ (row x).place → (row x).place < b + item_size
      → Split row (refused (record { number = 7; place = b })) (refused x)
