-- What the inner functions ask and answer. No promise of the call needs it.
use Rattle.std.specs.Prelude.{ℕ, ◌+◌, ◌*◌, ◌≤◌, ◌≡◌, Bool, true, List, [], ◌∷◌, leb, length, take, Result}
use Rattle.base.specs.Tests.{every, between}
use Rattle.base.specs.Checks.{fine}
use Rattle.contents.specs.declared.Counts.{Counts}
use Rattle.contents.specs.Limits.{event_size, item_size, message_size, most_events, most_items, most_actions, most_messages, most_text, deepest}
use Rattle.score.specs.File.{checked}
use Rattle.score.specs.Encode.{item_bytes}
use Rattle.filing.specs.Bodies.{ListRoom}
use Rattle.extended.specs.declared.Extent.{Extent}
use Rattle.extended.specs.Layout.{events_start}
use Rattle.extended.specs.Inner.{Foldable}
use Rattle.shapes.specs.Limits.{row_words}
use Rattle.tables.specs.Tables.{table_in, values_in, Valued}
use Rattle.unfolding.specs.declared.UnfoldError.{UnfoldError}
use Rattle.unfolding.specs.Messages.{entries_bytes, numbers_of}
use Rattle.unfolding.specs.Extended.{extended_of}
use Rattle.unfolding.specs.Unfolded.{items, actions, depth, page}
use Rattle.unfolding.specs.Sizes.{Score, score_of, counts_on, within_limits}
use Rattle.unfolding.specs.Answers.{judged, answered, room_left, unfolded_file}

-- What is answered to a score without a fault of its own, and what then stands in the room.
pub record Answers (f m new : List ℕ) (r : Result ℕ UnfoldError) : Type 0 where
  pub answer : r ≡ answered f fine
  pub left : new ≡ room_left r (unfolded_file f) m

-- What is told of a file, and what then stands in the room.
pub record Settles (f m new : List ℕ) (r : Result ℕ UnfoldError) : Type 0 where
  pub answer : r ≡ judged f (checked f)
  pub left : new ≡ room_left r f m

-- The score that an extended file says.
unfoldable pub score_in : List ℕ → Score
score_in f = score_of (extended_of f)

-- The bodies of the unfolded score but for the durations stand at the fronts of their bytes, and it is within the limits.
pub record Built (f : List ℕ) (k : Counts) (is es ls : List ℕ) : Type 0 where
  pub counts : k ≡ counts_on (score_in f)
  pub limits : within_limits (score_in f) ≡ true
  pub events : events_start + event_size * k.events ≤ length f
  pub items : take (item_size * k.items) is ≡ item_bytes (page (score_in f).items)
  pub entries : take (message_size * k.messages) es ≡ entries_bytes (score_in f).messages.entries
  pub labels : take k.text ls ≡ (score_in f).messages.text
  pub item_room : item_size * most_items ≤ length is
  pub list_room : ListRoom es ls

-- ---- sizes

-- What the counts alone tell of the limits.
unfoldable pub few : Extent → Bool
few c =
    every (between 1 most_events c.events ∷ leb c.items most_items ∷ leb c.messages most_messages ∷ leb c.text most_text ∷ [])

-- A score that can be unfolded, with few enough of everything on its page, and room for its table.
pub record Sizable (f : List ℕ) (c : Extent) (table : List ℕ) : Type 0 where
  pub foldable : Foldable f c
  pub short : few c ≡ true
  pub room : row_words * most_items ≤ length table

-- The table stands, and the unfolded score has so many items and is within the limits of items, actions and depth.
pub record Measured (f : List ℕ) (c : Extent) (table : List ℕ) (n : ℕ) : Type 0 where
  pub foldable : Foldable f c
  pub short : few c ≡ true
  pub values : length (values_in f c) ≤ most_actions
  pub rows : take (row_words * c.items) table ≡ table_in f c
  pub room : row_words * c.items ≤ length table
  pub count : n ≡ items (score_in f).items
  pub items_few : items (score_in f).items ≤ most_items
  pub actions_few : actions (score_in f).items ≤ most_actions
  pub shallow : depth (score_in f).items ≤ deepest

-- ---- numbers

-- The values of its curves stand too.
pub record Nameable (f : List ℕ) (c : Extent) (table : List ℕ) (n : ℕ) (values : List ℕ) (count : ℕ) : Type 0 where
  pub measured : Measured f c table n
  pub valued : Valued f c values count
  pub room : most_actions ≤ length values

-- So do their numbers and the list with them, and the score is within every limit.
pub record Listed (f : List ℕ) (c : Extent) (table numbers : List ℕ) (k : Counts) (es ls : List ℕ) : Type 0 where
  pub foldable : Foldable f c
  pub rows : take (row_words * c.items) table ≡ table_in f c
  pub room : row_words * c.items ≤ length table
  pub numbers_stand : take (length (values_in f c)) numbers ≡ numbers_of (extended_of f).messages (values_in f c)
  pub counts : k ≡ counts_on (score_in f)
  pub limits : within_limits (score_in f) ≡ true
  pub entries : take (message_size * k.messages) es ≡ entries_bytes (score_in f).messages.entries
  pub labels : take k.text ls ≡ (score_in f).messages.text
  pub list_room : ListRoom es ls
