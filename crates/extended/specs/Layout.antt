-- The table of contents of an extended score: "offset and count for events, items, messages, text bytes and points".
use Rattle.std.specs.Prelude.{ℕ, ◌+◌, ◌*◌, Bool, List, [], ◌∷◌, leb, eqb, length}
use Rattle.base.specs.Tests.{every}
use Rattle.contents.specs.Limits.{event_size, message_size}
use Rattle.contents.specs.Bytes.{u32_at}
use Rattle.extended.specs.declared.Extent.{Extent}

-- "Contents 40 bytes", "Item: 20 bytes", "Point: 8 bytes"
abbrev pub extended_contents : ℕ
extended_contents = 40

abbrev pub folded_size : ℕ
folded_size = 20

abbrev pub point_size : ℕ
point_size = 8

unfoldable pub extent_of : List ℕ → Extent
extent_of f = record { events = u32_at f 4; items = u32_at f 12; messages = u32_at f 20; text = u32_at f 28; points = u32_at f 36 }

-- "tables without gaps"
abbrev pub events_start : ℕ
events_start = extended_contents

abbrev pub items_start : Extent → ℕ
items_start c = events_start + event_size * c.events

abbrev pub messages_start : Extent → ℕ
messages_start c = items_start c + folded_size * c.items

abbrev pub text_start : Extent → ℕ
text_start c = messages_start c + message_size * c.messages

abbrev pub points_start : Extent → ℕ
points_start c = text_start c + c.text

abbrev pub whole_size : Extent → ℕ
whole_size c = points_start c + point_size * c.points

-- "under 40 bytes; an offset or the length that isn't as above"
unfoldable pub contents_right : List ℕ → Bool
contents_right f =
    let c = extent_of f in
    every (
    leb extended_contents (length f)
    ∷ eqb (u32_at f 0) events_start
    ∷ eqb (u32_at f 8) (items_start c)
    ∷ eqb (u32_at f 16) (messages_start c)
    ∷ eqb (u32_at f 24) (text_start c)
    ∷ eqb (u32_at f 32) (points_start c)
    ∷ eqb (length f) (whole_size c)
    ∷ []
    )
