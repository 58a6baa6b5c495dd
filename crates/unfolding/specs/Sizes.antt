-- The unfolded score as a whole, its limits (18), and its file.
use Rattle.std.specs.Prelude.{ℕ, Bool, List, [], ◌∷◌, ◌++◌, leb, length}
use Rattle.base.specs.Tests.{every, between}
use Rattle.contents.specs.declared.Counts.{Counts}
use Rattle.contents.specs.Limits.{most_events, most_items, most_actions, most_messages, most_text, deepest}
use Rattle.score.specs.Encode.{contents_bytes, duration_bytes, item_bytes}
use Rattle.extended.specs.Points.{all_values}
use Rattle.unfolding.specs.Messages.{Messages, entries_bytes, with_values}
use Rattle.unfolding.specs.Extended.{Extended, numbered}
use Rattle.unfolding.specs.Unfolded.{Unfolded, unfolded, items, actions, depth, page}

pub record Score : Type 0 where
  pub durations : List ℕ
  pub items : Unfolded
  pub messages : Messages

-- "Everything else is copied".
unfoldable pub score_of : Extended → Score
score_of x =
    record {
      durations = x.durations;
      items = unfolded (numbered x.items x.points x.messages);
      messages = with_values x.messages (all_values x.items x.points);
    }

unfoldable pub counts_on : Score → Counts
counts_on s =
    record {
      events = length s.durations;
      items = items s.items;
      messages = length s.messages.entries;
      text = length s.messages.text;
    }

-- "18: the unfolded score would have no event or more than 256, more than 2,048 items, 1,024 actions, 512 messages, 24,576 text bytes, or an item at depth 9."
unfoldable pub within_limits : Score → Bool
within_limits s =
    every (
    between 1 most_events (length s.durations)
    ∷ leb (items s.items) most_items
    ∷ leb (actions s.items) most_actions
    ∷ leb (length s.messages.entries) most_messages
    ∷ leb (length s.messages.text) most_text
    ∷ leb (depth s.items) deepest
    ∷ []
    )

-- "a table of contents first, then the bodies without gaps"
unfoldable pub file_of : Score → List ℕ
file_of s =
    contents_bytes (counts_on s)
    ++ (duration_bytes s.durations ++ (item_bytes (page s.items) ++ (entries_bytes s.messages.entries ++ s.messages.text)))
