-- What the second pass asks, and what it leaves: the bodies of the file of a text's lines.
use Rattle.std.specs.Prelude.{ℕ, ◌+◌, ◌*◌, ◌<◌, ◌≤◌, ◌≡◌, List, length, take, drop, Result}
use Rattle.tokens.specs.Beats.{field}
use Rattle.contents.specs.declared.Counts.{Counts}
use Rattle.contents.specs.Limits.{event_size, item_size, message_size, most_events, longest_score}
use Rattle.contents.specs.Inner.{Counted}
use Rattle.score.specs.Encode.{duration_bytes, item_bytes, entry_bytes, text_bytes, counts_in}
use Rattle.score.specs.File.{checked}
use Rattle.filing.specs.Bodies.{PageRoom, ListRoom}
use Rattle.script.specs.Balanced.{Balanced}
use Rattle.text.specs.declared.Stage.TheVariants.{Start, Listing}
use Rattle.text.specs.Grammar.{script}
use Rattle.text.specs.declared.TextError.{TextError}
use Rattle.text.specs.Said.{labels_of, durations_of, items_of, piece_of, piece, said}
use Rattle.text.specs.Transcripts.{judged, answered, room_left, file_of}
use Rattle.reader.specs.Turns.{Turnable}

-- The text has no fault, and no more of anything than a file may have.
pub record Tellable (t : List ℕ) : Type 0 where
  pub balanced : Balanced Start (script Start t)
  pub counted : Counted (counts_in (piece_of (script Start t)))

-- ---- the list

-- Behind the word `messages`.
pub record Headed (t : List ℕ) (r : ℕ) : Type 0 where
  pub left : Turnable t r (Listing 0)
  pub labels : labels_of (script (Listing 0) (drop r t)) ≡ labels_of (script Start t)
  pub durations : durations_of (script (Listing 0) (drop r t)) ≡ durations_of (script Start t)
  pub items : items_of 0 0 0 (script (Listing 0) (drop r t)) ≡ items_of 0 0 0 (script Start t)

-- Behind so many messages the events and items of the text are left.
pub record Begun (t : List ℕ) (at n : ℕ) : Type 0 where
  pub left : Turnable t at (Listing n)
  pub durations : durations_of (script (Listing n) (drop at t)) ≡ durations_of (script Start t)
  pub items : items_of 0 0 0 (script (Listing n) (drop at t)) ≡ items_of 0 0 0 (script Start t)

-- The entries and the labels stand at the front of their bytes, and the page begins here.
pub record Listed (t e l : List ℕ) (r : ℕ) : Type 0 where
  pub entries : take (message_size * length (labels_of (script Start t))) e ≡ entry_bytes 0 (labels_of (script Start t))
  pub labels : take (length (text_bytes (labels_of (script Start t)))) l ≡ text_bytes (labels_of (script Start t))
  pub begun : Begun t r (length (labels_of (script Start t)))
  pub room : ListRoom e l

-- ---- the page

-- What an item asks: room behind the first n, and numbers that fit their fields.
pub record RowRoom (m : List ℕ) (n e p d : ℕ) : Type 0 where
  pub room : item_size * n + item_size ≤ length m
  pub event : e ≤ most_events
  pub part : p < 256
  pub delay : d < field

-- The durations and the items stand at the front of their bytes.
pub record Paged (t d m : List ℕ) : Type 0 where
  pub durations : take (event_size * length (durations_of (script Start t))) d ≡ duration_bytes (durations_of (script Start t))
  pub items : take (item_size * length (items_of 0 0 0 (script Start t))) m ≡ item_bytes (items_of 0 0 0 (script Start t))
  pub room : PageRoom d m

-- ---- the file

-- The text has no fault, these are the counts of what it says, and there is room for a file.
pub record Writable (t : List ℕ) (c : Counts) (out : List ℕ) : Type 0 where
  pub told : Tellable t
  pub counts : c ≡ counts_in (piece_of (script Start t))
  pub room : longest_score ≤ length out

-- ---- the answer

-- What is told of a file, and what then stands in the room.
pub record Settles (f m new : List ℕ) (r : Result ℕ TextError) : Type 0 where
  pub answer : r ≡ judged f (checked f)
  pub left : new ≡ room_left r f m

-- The text says the piece of its lines, these are its counts, and there is room for a file.
pub record Sayable (t : List ℕ) (c : Counts) (m : List ℕ) : Type 0 where
  pub balanced : Balanced Start (script Start t)
  pub says : said t ≡ piece (piece_of (script Start t))
  pub counts : c ≡ counts_in (piece_of (script Start t))
  pub room : longest_score ≤ length m

-- What is told of it, and what then stands in the room.
pub record Answers (t m new : List ℕ) (r : Result ℕ TextError) : Type 0 where
  pub answer : r ≡ answered t (said t)
  pub left : new ≡ room_left r (file_of (said t)) m
