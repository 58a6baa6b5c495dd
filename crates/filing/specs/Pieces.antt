-- What is laid of a file at a time, and what laying it asks.
use Rattle.std.specs.Prelude.{ℕ, ◌+◌, ◌≤◌, ◌<◌, List, ◌++◌, length}
use Rattle.page.specs.declared.Item.{Item}
use Rattle.contents.specs.declared.Counts.{Counts}
use Rattle.contents.specs.Limits.{contents_size}
use Rattle.contents.specs.Inner.{Counted}
use Rattle.score.specs.Encode.{le16, le32, contents_bytes}

-- A message's entry: where its label starts in the text, and its length.
unfoldable pub entry_of : (from size : ℕ) → List ℕ
entry_of from size = le16 from ++ le16 size

-- "offset (u32) and count (u32)" of a body
unfoldable pub body_of : (offset count : ℕ) → List ℕ
body_of offset count = le32 offset ++ le32 count

-- Each field of the item fits its bytes.
pub record Fitting (i : Item) : Type 0 where
  pub kind : i.kind < 256
  pub synchrony : i.synchrony < 256
  pub error : i.error < 256
  pub part : i.part < 256
  pub delay : i.delay.0 < 4294967296
  pub event : i.event < 65536
  pub last : i.last < 65536

-- "a table of contents first, then the bodies without gaps"
unfoldable pub filed : Counts → (durations items entries text : List ℕ) → List ℕ
filed c durations items entries text = contents_bytes c ++ (durations ++ (items ++ (entries ++ text)))

-- The counts are right, and there is room for the contents and the bodies.
pub record Filable (c : Counts) (durations items entries text out : List ℕ) : Type 0 where
  pub counted : Counted c
  pub room : contents_size + length durations + length items + length entries + length text ≤ length out
