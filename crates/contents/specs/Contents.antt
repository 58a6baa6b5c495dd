-- The table of contents: "offset (u32) and count (u32) for events, items, messages and text bytes, in that order".
use Rattle.std.specs.Prelude.{ℕ, ◌+◌, ◌*◌, List, [], ◌∷◌, leb, eqb}
use Rattle.base.specs.Tests.{between}
use Rattle.base.specs.Checks.{Check, need, first_fault}
use Rattle.contents.specs.declared.Fault.{Fault}
use Rattle.contents.specs.declared.Fault.TheVariants.{BadCount, BadOffset, BadLength}
use Rattle.contents.specs.declared.Counts.{Counts}
use Rattle.contents.specs.declared.Offsets.{Offsets}
use Rattle.contents.specs.Limits.{contents_size, event_size, item_size, message_size, most_events, most_items, most_messages, most_text}
use Rattle.contents.specs.Bytes.{u32_at}

unfoldable pub offsets_of : List ℕ → Offsets
offsets_of f = record { events = u32_at f 0; items = u32_at f 8; messages = u32_at f 16; text = u32_at f 24 }

unfoldable pub counts_of : List ℕ → Counts
counts_of f = record { events = u32_at f 4; items = u32_at f 12; messages = u32_at f 20; text = u32_at f 28 }

-- "a table of contents first, then the bodies without gaps"
abbrev pub events_at : ℕ
events_at = contents_size

abbrev pub items_at : Counts → ℕ
items_at c = events_at + event_size * c.events

abbrev pub messages_at : Counts → ℕ
messages_at c = items_at c + item_size * c.items

abbrev pub text_at : Counts → ℕ
text_at c = messages_at c + message_size * c.messages

abbrev pub size_of : Counts → ℕ
size_of c = text_at c + c.text

-- 4: "a count outside its limits", at "byte of the first such count"
unfoldable pub counts_right : Counts → Check Fault
counts_right c =
    first_fault (
    need (between 1 most_events c.events) (BadCount 4)
    ∷ need (leb c.items most_items) (BadCount 12)
    ∷ need (leb c.messages most_messages) (BadCount 20)
    ∷ need (leb c.text most_text) (BadCount 28)
    ∷ []
    )

-- 5: "an offset not as above", at "byte of the first such offset"; "offsets right, file length wrong", at 0
unfoldable pub offsets_right : Offsets → Counts → ℕ → Check Fault
offsets_right o c size =
    first_fault (
    need (eqb o.events events_at) (BadOffset 0)
    ∷ need (eqb o.items (items_at c)) (BadOffset 8)
    ∷ need (eqb o.messages (messages_at c)) (BadOffset 16)
    ∷ need (eqb o.text (text_at c)) (BadOffset 24)
    ∷ need (eqb size (size_of c)) BadLength
    ∷ []
    )
