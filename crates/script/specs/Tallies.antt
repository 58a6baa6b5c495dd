-- What the first pass answers: how much a text has of each kind, or its first fault.
use Rattle.std.specs.Prelude.{ℕ, ◌+◌, ◌<◌, ◌^◌, Result, Ok, Err}
use Rattle.contents.specs.declared.Counts.{Counts}
use Rattle.score.specs.Encode.{counts_in}
use Rattle.text.specs.Said.{Reading, piece, unread}
use Rattle.script.specs.declared.Found.{Found}
use Rattle.script.specs.declared.Found.TheVariants.{Heading, Message, Event, Part, Send, Group, Close}

unfoldable pub tally_of : Reading → Result Counts ℕ
tally_of (piece p) = Ok (counts_in p)
tally_of (unread at) = Err at

-- How many bytes its label has.
unfoldable pub size_in : Found → ℕ
size_in Heading = 0
size_in (Message start size) = size
size_in (Event g) = 0
size_in (Part n) = 0
size_in (Send d n) = 0
size_in (Group d w v) = 0
size_in Close = 0

-- One line more.
unfoldable pub counted_in : Found → Counts → Counts
counted_in Heading c = c
counted_in (Message start size) c = record { events = c.events; items = c.items; messages = c.messages + 1; text = c.text + size }
counted_in (Event g) c = record { events = c.events + 1; items = c.items; messages = c.messages; text = c.text }
counted_in (Part n) c = c
counted_in (Send d n) c = record { events = c.events; items = c.items + 1; messages = c.messages; text = c.text }
counted_in (Group d w v) c = record { events = c.events; items = c.items + 1; messages = c.messages; text = c.text }
counted_in Close c = c

-- What counting one line more asks: no count is at its end.
pub record Countable (found : Found) (c : Counts) : Type 0 where
  pub events : c.events + 1 < 2 ^ 64
  pub items : c.items + 1 < 2 ^ 64
  pub messages : c.messages + 1 < 2 ^ 64
  pub text : c.text + size_in found < 2 ^ 64
