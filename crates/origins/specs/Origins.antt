-- Where in a text stands what made a byte of the file that it makes.
use Rattle.std.specs.Prelude.{ℕ, ◌-◌, Bool, true, false, List, [], ◌∷◌, eqb, ltb, length, take, get_or}
use Rattle.base.specs.Tests.{pick}
use Rattle.contents.specs.declared.Counts.{Counts}
use Rattle.contents.specs.declared.entries.Entry.{Entry}
use Rattle.contents.specs.declared.entries.Entry.TheVariants as entry
use Rattle.contents.specs.Limits.{most_events, most_items, most_messages, most_text}
use Rattle.contents.specs.Entries.{entry_at}
use Rattle.score.specs.Encode.{counts_in}
use Rattle.tokens.specs.declared.Place.{Place}
use Rattle.tokens.specs.Tokens.{Read, got, stop, left_by, blanks, number}
use Rattle.tokens.specs.Places.{place_behind}
use Rattle.text.specs.declared.Stage.{Stage}
use Rattle.text.specs.declared.Stage.TheVariants.{Start}
use Rattle.text.specs.Words.{any_number}
use Rattle.text.specs.Grammar.{Line, heading, message, event, part, send, group, close, line, after, Script, done, more, fault, script}
use Rattle.text.specs.Said.{Reading, piece, unread, said}
use Rattle.origins.specs.declared.aims.Table.{Table}
use Rattle.origins.specs.declared.aims.Table.TheVariants.{Events, Items, Messages, Text}

-- ---- the lines of a text, each where it stands

-- A line, the bytes from its first one on, where no blank stands, and those left behind it.
pub record Placed : Type 0 where
  pub line : Line
  pub from : List ℕ
  pub left : List ℕ

unfoldable pub placed : Line → (from : List ℕ) → Read Line → (List ℕ → List Placed) → List Placed
placed l bs (got k left) next = record { line = l; from = bs; left = left } ∷ next left
placed l bs (stop left) next = []

unfoldable pub placed_lines : Stage → List ℕ → Script → List Placed
placed_lines stage bs done = []
placed_lines stage bs (fault left) = []
placed_lines stage bs (more l s) = placed l (blanks bs) (line stage (blanks bs)) (λ left. placed_lines (after l stage) left s)

-- ---- what a line makes

-- How much it adds to what the table of contents counts.
unfoldable pub adds : Line → Counts
adds heading = record { events = 0; items = 0; messages = 0; text = 0 }
adds (message l) = record { events = 0; items = 0; messages = 1; text = length l }
adds (event g) = record { events = 1; items = 0; messages = 0; text = 0 }
adds (part p) = record { events = 0; items = 0; messages = 0; text = 0 }
adds (send d n) = record { events = 0; items = 1; messages = 0; text = 0 }
adds (group d w v) = record { events = 0; items = 1; messages = 0; text = 0 }
adds close = record { events = 0; items = 0; messages = 0; text = 0 }

unfoldable pub count_of : Table → Counts → ℕ
count_of Events c = c.events
count_of Items c = c.items
count_of Messages c = c.messages
count_of Text c = c.text

-- "the event's `event`, the item's first byte, the label's quote": a message's quote stands behind its number and the blanks behind that.
unfoldable pub token_in : Line → List ℕ → List ℕ
token_in heading bs = bs
token_in (message l) bs = blanks (left_by (number any_number bs))
token_in (event g) bs = bs
token_in (part p) bs = bs
token_in (send d n) bs = bs
token_in (group d w v) bs = bs
token_in close bs = bs

-- Whether it is one of the message list: its heading, or a message.
unfoldable pub is_listed : Line → Bool
is_listed heading = true
is_listed (message l) = true
is_listed (event g) = false
is_listed (part p) = false
is_listed (send d n) = false
is_listed (group d w v) = false
is_listed close = false

-- ---- what made a byte

-- Nothing in the text, or what stands from these bytes on.
pub data Origin : Type 0 where
  unmade : Origin
  from : List ℕ → Origin

-- The first line with which there are more than n of a kind: number n of them, counted from 0, and "the first one past its limit".
unfoldable pub passing : Table → ℕ → List Placed → Origin
passing k n [] = unmade
passing k n (p ∷ ps) =
    pick (ltb n (count_of k (adds p.line))) (from (token_in p.line p.from))
    (passing k (n - count_of k (adds p.line)) ps)

-- "the end of the list": what is left behind the last line of it.
unfoldable pub list_end : List ℕ → List Placed → List ℕ
list_end left [] = left
list_end left (p ∷ ps) = list_end (pick (is_listed p.line) p.left left) ps

-- The fields of the contents in their order, an offset and a count for each table: "for a count the first one past its limit; for the text left over the end of the list".
-- Where there is no event, one is missing at the text's end.
unfoldable pub contents_origins : (text : List ℕ) → Counts → List Placed → List Origin
contents_origins t c ps =
    unmade
    ∷ pick (eqb c.events 0) (from []) (passing Events most_events ps)
    ∷ unmade
    ∷ passing Items most_items ps
    ∷ unmade
    ∷ passing Messages most_messages ps
    ∷ from (list_end t ps)
    ∷ passing Text most_text ps
    ∷ []

-- Events are numbered from 1; fields of the contents, items and messages from 0.
unfoldable pub origin_in : (text : List ℕ) → Counts → List Placed → Entry → Origin
origin_in t c ps entry.Nowhere = unmade
origin_in t c ps (entry.Contents k) = get_or (contents_origins t c ps) k unmade
origin_in t c ps (entry.Event n) = passing Events (n - 1) ps
origin_in t c ps (entry.Item n) = passing Items n ps
origin_in t c ps (entry.Message n) = passing Messages n ps

unfoldable pub origin_of : (text : List ℕ) → Reading → (place : ℕ) → Origin
origin_of t (unread at) place = unmade
origin_of t (piece p) place = origin_in t (counts_in p) (placed_lines Start t (script Start t)) (entry_at (counts_in p) place)

-- ---- its line and column

unfoldable pub place_of : (text : List ℕ) → Origin → Place
place_of t unmade = record { line = 0; column = 0 }
place_of t (from left) = place_behind (take (length t - length left) t)

-- "line and column of what made the byte at that place of the file that the text makes"; "0 and 0 where the text has a fault of its own or the place is none of these"
unfoldable pub place_in_text : (text : List ℕ) → (place : ℕ) → Place
place_in_text t place = place_of t (origin_of t (said t) place)
