-- The bodies of a file at the fronts of lent bytes, the file of them, and what then stands in a lent room.
use Rattle.std.specs.Prelude.{ℕ, ◌*◌, ◌≤◌, ◌≡◌, List, ◌++◌, length, take, drop, Result}
use Rattle.base.specs.Checks.{Check, fine, refused}
use Rattle.contents.specs.declared.Counts.{Counts}
use Rattle.contents.specs.declared.Fault.{Fault}
use Rattle.contents.specs.Limits.{event_size, item_size, message_size, most_events, most_items, most_messages, most_text, longest_score}
use Rattle.contents.specs.Inner.{Counted}
use Rattle.contents.specs.Replies.{verdict_of}
use Rattle.score.specs.File.{checked}
use Rattle.filing.specs.Pieces.{filed}

pub record PageRoom (d m : List ℕ) : Type 0 where
  pub durations : event_size * most_events ≤ length d
  pub items : item_size * most_items ≤ length m

pub record ListRoom (e l : List ℕ) : Type 0 where
  pub entries : message_size * most_messages ≤ length e
  pub labels : most_text ≤ length l

-- The counts are right, and there is room for each body and for the file.
pub record Bodies (c : Counts) (durations items entries labels out : List ℕ) : Type 0 where
  pub counted : Counted c
  pub page : PageRoom durations items
  pub list : ListRoom entries labels
  pub room : longest_score ≤ length out

-- The file of the bodies at the fronts of these bytes.
unfoldable pub file_in : Counts → (durations items entries labels : List ℕ) → List ℕ
file_in c d m e l = filed c (take (event_size * c.events) d) (take (item_size * c.items) m) (take (message_size * c.messages) e) (take c.text l)

-- A file that is right stands at the front of the room and the bytes past it stay; a refused one leaves every byte.
unfoldable pub settled : Check Fault → (file room : List ℕ) → List ℕ
settled fine f m = f ++ drop (length f) m
settled (refused x) f m = m

pub record Settled (f m new : List ℕ) (r : Result (Unit {0}) Fault) : Type 0 where
  pub verdict : r ≡ verdict_of (checked f)
  pub left : new ≡ settled (checked f) f m
