-- What the inner functions ask. No promise of a call needs it.
use Rattle.std.specs.Prelude.{ℕ, zero, suc, ◌+◌, ◌*◌, ◌≤◌, ◌≡◌, List, length}
use Rattle.contents.specs.Limits.{item_size, most_items, most_actions, deepest}
use Rattle.score.specs.Encode.{item_bytes}
use Rattle.extended.specs.Layout.{folded_size}
use Rattle.shapes.specs.Limits.{row_words}
use Rattle.shapes.specs.Shapes.{shapes_from}
use Rattle.unfolding.specs.Unfolded.{Unfolded, items, actions, depth, page}
use Rattle.building.specs.Rows.{numbered_in, shapes_of}

abbrev pub page_bytes : Unfolded → List ℕ
page_bytes u = item_bytes (page u)

-- The delay of the pass or value at a place: "the first with delay 0, the others with the period".
unfoldable pub delay_of : (first each place : ℕ) → ℕ
delay_of first each zero = first
delay_of first each (suc n) = each

-- The count items from item k on stand in the file, and their shapes in the table.
pub record Tabled (file : List ℕ) (start : ℕ) (table numbers : List ℕ) (k count : ℕ) : Type 0 where
  pub bytes : start + folded_size * (k + count) ≤ length file
  pub rows : row_words * (k + count) ≤ length table
  pub shapes : shapes_from table k count ≡ shapes_of (numbered_in file start table numbers k count)

-- A score within the limits, d levels of them passed, and room for it from a place on.
pub record Buildable (size to d : ℕ) (u : Unfolded) : Type 0 where
  pub room : to + item_size * items u ≤ size
  pub few : items u ≤ most_items
  pub sent : actions u ≤ most_actions
  pub flat : d + depth u ≤ deepest
