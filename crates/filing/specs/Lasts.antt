-- The last field of an item: an action's message, and of a group how many items lie within it.
use Rattle.std.specs.Prelude.{ℕ, zero, suc, ◌+◌, ◌*◌, ◌<◌, ◌≡◌, List, [], ◌∷◌}
use Rattle.ascii.specs.Laying.{Laid}
use Rattle.page.specs.declared.Item.{Item}
use Rattle.contents.specs.Limits.{item_size}
use Rattle.contents.specs.Bytes.{u16_at}
use Rattle.score.specs.Encode.{le16}

unfoldable pub with_last : Item → ℕ → Item
with_last i v = record { kind = i.kind; synchrony = i.synchrony; error = i.error; part = i.part; delay = i.delay; event = i.event; last = v }

-- Of the item at this place, 0 where there is none.
unfoldable pub last_of : List Item → ℕ → ℕ
last_of [] g = 0
last_of (i ∷ w) zero = i.last
last_of (i ∷ w) (suc g) = last_of w g

unfoldable pub set_last : List Item → ℕ → ℕ → List Item
set_last [] g v = []
set_last (i ∷ w) zero v = with_last i v ∷ w
set_last (i ∷ w) (suc g) v = i ∷ set_last w g v

-- Where it stands in an item's bytes.
abbrev pub last_at : ℕ
last_at = 10

-- Among an item table's bytes: r stood there, v stands there then, and the others stay.
pub record Replaced (items : List ℕ) (g v : ℕ) (new : List ℕ) (r : ℕ) : Type 0 where
  pub stood : r ≡ u16_at items (item_size * g + last_at)
  pub small : r < 65536
  pub laid : Laid items (item_size * g + last_at) (le16 v) new (item_size * g + item_size)
