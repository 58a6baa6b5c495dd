-- What naming a curve's values asks, and what then stands in the lent rooms.
use Rattle.std.specs.Prelude.{ℕ, ◌*◌, ◌≤◌, ◌<◌, ◌≡◌, Bool, true, List, [], ◌∷◌, leb, ℤ, length, take, get_or, Option, Some, None}
use Rattle.base.specs.Tests.{pick, every}
use Rattle.contents.specs.Limits.{message_size, most_actions, most_messages, most_text}
use Rattle.values.specs.Integers.{whole_range}
use Rattle.extended.specs.declared.Extent.{Extent}
use Rattle.extended.specs.Inner.{Foldable}
use Rattle.unfolding.specs.Messages.{Messages, entries_bytes, with_values, numbers_of}
use Rattle.naming.specs.declared.Named.{Named}

-- "512 messages, 24,576 text bytes"
unfoldable pub fits : Messages → Bool
fits m = every (leb (length m.entries) most_messages ∷ leb (length m.text) most_text ∷ [])

unfoldable pub naming_of : Messages → Option Named
naming_of m = pick (fits m) (Some (record { messages = length m.entries; text = length m.text })) None

-- A score whose own messages are within the limits, values of 32 bits, raised, and room for the most of each.
pub record Namable (f : List ℕ) (c : Extent) (values : List ℕ) (count : ℕ) (entries labels numbers : List ℕ) : Type 0 where
  pub score : Foldable f c
  pub few : c.messages ≤ most_messages
  pub short : c.text ≤ most_text
  pub count_most : count ≤ most_actions
  pub count_there : count ≤ length values
  pub small : (j : ℕ) → j < count → get_or values j 0 < whole_range
  pub entries_room : message_size * most_messages ≤ length entries
  pub labels_room : most_text ≤ length labels
  pub numbers_room : most_actions ≤ length numbers

-- The list after these values stands at the fronts of its rooms, and their numbers, where it is within the limits.
pub record Names (m : Messages) (vs : List ℤ) (count : ℕ) (entries labels numbers : List ℕ) (r : Option Named) : Type 0 where
  pub answer : r ≡ naming_of (with_values m vs)
  pub entries_stand : fits (with_values m vs) ≡ true → take (message_size * length (with_values m vs).entries) entries ≡ entries_bytes (with_values m vs).entries
  pub text_stands : fits (with_values m vs) ≡ true → take (length (with_values m vs).text) labels ≡ (with_values m vs).text
  pub numbers_stand : fits (with_values m vs) ≡ true → take count numbers ≡ numbers_of m vs
