-- Which bytes are laid of the items from a page place on, of the page and of the message list.
use Rattle.std.specs.Prelude.{ℕ, suc, ◌+◌, ◌≤◌, Bool, false, List, [], ◌∷◌, eqb, length, take, drop}
use Rattle.page.specs.declared.Item.{Item}
use Rattle.base.specs.Tests.{pick}
use Rattle.items.specs.Items.{within_of}
use Rattle.contents.specs.Limits.{last_part, most_items}
use Rattle.writer.specs.Phrases.{joined, part_text}
use Rattle.score.specs.Piece.{Piece, decode}
use Rattle.score.specs.File.{Accepted}
use Rattle.text.specs.Written.{Spot, text_of, item_lines, page_lines, message_lines}

-- Within so many groups.
abbrev pub within : (depth : ℕ) → Spot
within depth = record { messages = 0; events = 0; depth = depth }

-- Behind the message list and so many events.
abbrev pub behind : Piece → (events : ℕ) → Spot
behind p e = record { messages = length p.labels; events = e; depth = 0 }

-- The count items from a place on, and all within them.
unfoldable pub items_text : Piece → (from count depth : ℕ) → List ℕ
items_text p from count depth = text_of p.labels (within depth) (item_lines count (take count (drop from p.items)))

-- "A group ends within the group that holds it, a top group within the table".
pub data Nests : List Item → Type 0 where
  no_items : Nests []
  with_item : {i : Item} {is : List Item} → within_of i ≤ length is → Nests (take (within_of i) is) → Nests (drop (within_of i) is) → Nests (i ∷ is)

-- What laying the items asks: that they nest and are there, a depth that fits, and room for their text.
pub record Layable (f : List ℕ) (from count depth : ℕ) (out : List ℕ) (at : ℕ) : Type 0 where
  pub accepted : Accepted f
  pub nests : Nests (take count (drop from (decode f).items))
  pub table : from + count ≤ length (decode f).items
  pub deep : depth + count ≤ most_items
  pub room : at + length (items_text (decode f) from count depth) ≤ length out

-- The labels from the k-th on, each with its number.
unfoldable pub messages_text : Piece → (k : ℕ) → List ℕ
messages_text p k = text_of p.labels (record { messages = k; events = 0; depth = 0 }) (message_lines (drop k p.labels))

-- The page behind event e, from the item at place i on.
unfoldable pub page_text : Piece → (e standing i : ℕ) → List ℕ
page_text p e standing i =
    text_of p.labels (behind p e) (page_lines (suc (length (drop e p.durations) + length (drop i p.items))) e standing (drop e p.durations) (drop i p.items))

-- Whether the first of these items names this event.
unfoldable pub names : (e : ℕ) → List Item → Bool
names e [] = false
names e (i ∷ is) = eqb i.event e

-- A top item's part, where it is not the one that stands.
unfoldable pub change_text : (standing part : ℕ) → List ℕ
change_text standing p = pick (eqb standing (suc p)) [] (part_text p)

-- The top item at a place, which has this part and so many items within it.
abbrev pub top_text : Piece → (standing i part inner : ℕ) → List ℕ
top_text p standing i part inner = joined (change_text standing part ∷ items_text p i (1 + inner) 0 ∷ [])

-- What laying a top item asks.
pub record Topped (f : List ℕ) (i part inner standing : ℕ) (out : List ℕ) (at : ℕ) : Type 0 where
  pub accepted : Accepted f
  pub nests : Nests (take (1 + inner) (drop i (decode f).items))
  pub table : i + (1 + inner) ≤ length (decode f).items
  pub small : part ≤ last_part
  pub room : at + length (top_text (decode f) standing i part inner) ≤ length out
