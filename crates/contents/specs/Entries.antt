-- Which entry of a score file a byte lies in.
use Rattle.std.specs.Prelude.{ℕ, ◌+◌, ◌-◌, ◌/◌, ltb}
use Rattle.base.specs.Tests.{pick}
use Rattle.contents.specs.declared.Counts.{Counts}
use Rattle.contents.specs.declared.entries.Entry.{Entry}
use Rattle.contents.specs.declared.entries.Entry.TheVariants.{Nowhere, Contents, Event, Item, Message}
use Rattle.contents.specs.Limits.{event_size, item_size, message_size}
use Rattle.contents.specs.Contents.{events_at, items_at, messages_at, text_at}

-- An offset or a count in the table of contents is a u32.
abbrev pub field_size : ℕ
field_size = 4

-- The entry that holds this byte. Events are numbered from 1; fields of the contents, items and messages from 0.
unfoldable pub entry_at : Counts → ℕ → Entry
entry_at c at =
    pick (ltb at events_at) (Contents (at / field_size))
    (pick (ltb at (items_at c)) (Event (1 + (at - events_at) / event_size))
    (pick (ltb at (messages_at c)) (Item ((at - items_at c) / item_size))
    (pick (ltb at (text_at c)) (Message ((at - messages_at c) / message_size)) Nowhere)))
