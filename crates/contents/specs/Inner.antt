-- What is known of a file once its table of contents was checked. No promise of a call of document 01 needs it.
use Rattle.std.specs.Prelude.{◌≡◌, ℕ, ◌≤◌, List, length}
use Rattle.contents.specs.declared.Counts.{Counts}
use Rattle.contents.specs.Limits.{most_events, most_items, most_messages, most_text}
use Rattle.contents.specs.Contents.{counts_of, size_of}

-- Right counts, and the size of a file whose contents are right.
pub record Counted (c : Counts) : Type 0 where
  pub some : 1 ≤ c.events
  pub events : c.events ≤ most_events
  pub items : c.items ≤ most_items
  pub messages : c.messages ≤ most_messages
  pub text : c.text ≤ most_text

pub record Sized (c : Counts) (size : ℕ) : Type 0 where
  pub counted : Counted c
  pub whole : size ≡ size_of c

-- These are the counts of a file whose contents are right.
pub record RightContents (f : List ℕ) (c : Counts) : Type 0 where
  pub counts : c ≡ counts_of f
  pub sized : Sized c (length f)
