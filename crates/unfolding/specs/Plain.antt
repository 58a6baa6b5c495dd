-- An ordinary piece written as an extended score, with no loop and no curve: what such a score unfolds to is said of it.
use Rattle.std.specs.Prelude.{ℕ, List, [], ◌∷◌, ◌++◌}
use Rattle.page.specs.declared.Item.{Item}
use Rattle.score.specs.Piece.{Piece}
use Rattle.score.specs.Encode.{le16, le32, duration_bytes, item_bytes, entry_bytes, text_bytes, counts_in}
use Rattle.extended.specs.declared.Extent.{Extent}
use Rattle.extended.specs.declared.Folded.{Folded}
use Rattle.extended.specs.Layout.{events_start, items_start, messages_start, text_start, points_start}

-- An ordinary item as an extended one: no period, no passes.
unfoldable pub plain_item : Item → Folded
plain_item i = record { item = i; each = 0; times = 0; pad = 0 }

-- "the 12 of document 01, then `each` (u32) and `times` (u16), then two bytes of 0"
unfoldable pub plain_bytes : List Item → List ℕ
plain_bytes [] = []
plain_bytes (i ∷ is) = item_bytes (i ∷ []) ++ (le32 0 ++ (le16 0 ++ (le16 0 ++ plain_bytes is)))

-- "Contents 40 bytes: offset and count for events, items, messages, text bytes and points"
unfoldable pub extent_bytes : Extent → List ℕ
extent_bytes c =
    le32 events_start
    ++ (le32 c.events
    ++ (le32 (items_start c)
    ++ (le32 c.items ++ (le32 (messages_start c) ++ (le32 c.messages ++ (le32 (text_start c) ++ (le32 c.text ++ (le32 (points_start c) ++ le32 c.points))))))))

-- A piece's counts, and no point.
unfoldable pub plain_extent : Piece → Extent
plain_extent p =
    let c = counts_in p in
    record { events = c.events; items = c.items; messages = c.messages; text = c.text; points = 0 }

-- The extended file of a piece, with no loop or curve.
unfoldable pub plain_file : Piece → List ℕ
plain_file p =
    extent_bytes (plain_extent p)
    ++ (duration_bytes p.durations ++ (plain_bytes p.items ++ (entry_bytes 0 p.labels ++ text_bytes p.labels)))
