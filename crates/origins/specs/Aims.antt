-- What is asked of the functions that look for what made a byte: their answers in the words of the definitions.
use Rattle.std.specs.Prelude.{ℕ, ◌-◌, ◌≤◌, ◌≡◌, Bool, true, false, List, [], ◌∷◌, eqb, ltb, length, drop, get_or, Option, Some, None}
use Rattle.base.specs.Tests.{pick}
use Rattle.contents.specs.declared.Counts.{Counts}
use Rattle.contents.specs.declared.entries.Entry.{Entry}
use Rattle.contents.specs.declared.entries.Entry.TheVariants as entry
use Rattle.contents.specs.Limits.{most_events, most_items, most_messages, most_text}
use Rattle.score.specs.Encode.{counts_in}
use Rattle.tokens.specs.declared.Place.{Place}
use Rattle.text.specs.declared.Stage.TheVariants.{Start}
use Rattle.text.specs.Grammar.{script}
use Rattle.text.specs.Said.{piece_of, piece, said}
use Rattle.script.specs.declared.Found.{Found}
use Rattle.script.specs.declared.Found.TheVariants.{Heading, Message, Event, Part, Send, Group, Close}
use Rattle.origins.specs.declared.aims.Table.TheVariants.{Events, Items, Messages, Text}
use Rattle.origins.specs.declared.aims.Aim.{Aim}
use Rattle.origins.specs.declared.aims.Aim.TheVariants.{Nothing, TextEnd, ListEnd, Past}
use Rattle.origins.specs.Origins.{Placed, adds, count_of, token_in, is_listed, Origin, unmade, from}

-- ---- a text without a fault

abbrev pub no_place : Place
no_place = record { line = 0; column = 0 }

-- The text has no fault, and what it says has so much of each kind.
pub record Says (t : List ℕ) (c : Counts) : Type 0 where
  pub says : said t ≡ piece (piece_of (script Start t))
  pub counts : c ≡ counts_in (piece_of (script Start t))

-- ---- what is looked for

-- Where there is no event, one is missing at the text's end.
unfoldable pub event_aim : ℕ → Aim
event_aim n = pick (eqb n 0) TextEnd (Past Events most_events)

unfoldable pub field_aims : Counts → List Aim
field_aims c =
    Nothing
    ∷ event_aim c.events
    ∷ Nothing
    ∷ Past Items most_items
    ∷ Nothing
    ∷ Past Messages most_messages
    ∷ ListEnd
    ∷ Past Text most_text
    ∷ []

unfoldable pub aim_at : Counts → Entry → Aim
aim_at c entry.Nowhere = Nothing
aim_at c (entry.Contents k) = get_or (field_aims c) k Nothing
aim_at c (entry.Event n) = Past Events (n - 1)
aim_at c (entry.Item n) = Past Items n
aim_at c (entry.Message n) = Past Messages n

-- ---- a line, and what is looked for

-- How much it has of it, by what it adds to the counts.
unfoldable pub share_of : Aim → Counts → ℕ
share_of Nothing c = 0
share_of TextEnd c = 0
share_of ListEnd c = 0
share_of (Past k n) c = count_of k c

unfoldable pub hits_in : Aim → (share : ℕ) → Bool
hits_in Nothing s = false
hits_in TextEnd s = false
hits_in ListEnd s = false
hits_in (Past k n) s = ltb n s

unfoldable pub aim_behind : Aim → (share : ℕ) → Aim
aim_behind Nothing s = Nothing
aim_behind TextEnd s = TextEnd
aim_behind ListEnd s = ListEnd
aim_behind (Past k n) s = Past k (n - s)

-- Where the lines are over: the end of the list is behind these bytes.
unfoldable pub ended_as : Aim → (listed : List ℕ) → Origin
ended_as Nothing e = unmade
ended_as TextEnd e = from []
ended_as ListEnd e = from e
ended_as (Past k n) e = unmade

-- What is found among these lines.
unfoldable pub sought_in : Aim → (listed : List ℕ) → List Placed → Origin
sought_in aim e [] = ended_as aim e
sought_in aim e (p ∷ ps) =
    pick (hits_in aim (share_of aim (adds p.line))) (from (token_in p.line p.from))
    (sought_in (aim_behind aim (share_of aim (adds p.line))) (pick (is_listed p.line) p.left e) ps)

-- ---- a line that was found

unfoldable pub added_by : Found → Counts
added_by Heading = record { events = 0; items = 0; messages = 0; text = 0 }
added_by (Message start size) = record { events = 0; items = 0; messages = 1; text = size }
added_by (Event g) = record { events = 1; items = 0; messages = 0; text = 0 }
added_by (Part n) = record { events = 0; items = 0; messages = 0; text = 0 }
added_by (Send d n) = record { events = 0; items = 1; messages = 0; text = 0 }
added_by (Group d w v) = record { events = 0; items = 1; messages = 0; text = 0 }
added_by Close = record { events = 0; items = 0; messages = 0; text = 0 }

-- It is a line of the list.
unfoldable pub listed_in : Found → Bool
listed_in Heading = true
listed_in (Message start size) = true
listed_in (Event g) = false
listed_in (Part n) = false
listed_in (Send d n) = false
listed_in (Group d w v) = false
listed_in Close = false

-- These bytes begin here.
pub record Begins (t : List ℕ) (what : List ℕ) (r : ℕ) : Type 0 where
  pub left : drop r t ≡ what
  pub within : r ≤ length t

-- ---- what was found

unfoldable pub origin_as : List ℕ → Option ℕ → Origin
origin_as t None = unmade
origin_as t (Some k) = from (drop k t)

-- It lies in the text.
pub data Lies (t : List ℕ) : Option ℕ → Type 0 where
  lies_nothing : Lies t None
  lies_at : {k : ℕ} → k ≤ length t → Lies t (Some k)

pub record Finds (t : List ℕ) (what : Origin) (r : Option ℕ) : Type 0 where
  pub says : origin_as t r ≡ what
  pub lies : Lies t r
