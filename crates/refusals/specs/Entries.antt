-- The entry of a score file at fault, its name for people, and the name of the field that an item's rule is about.
use Rattle.std.specs.Prelude.{ℕ, Bool, true, false, List, [], ◌∷◌, ◌++◌, leb, length, get_or}
use Rattle.base.specs.Tests.{pick}
use Rattle.ascii.specs.Decimals.{decimal}
use Rattle.ascii.specs.Text.{bytes_of}
use Rattle.contents.specs.declared.Fault.{Fault}
use Rattle.contents.specs.declared.Fault.TheVariants.{FileShort, BadCount, BadOffset, BadLength, BadEvent, BadItem, BadMessage, TextLeft, NoMessage}
use Rattle.contents.specs.declared.ItemRule.{ItemRule}
use Rattle.contents.specs.declared.ItemRule.TheVariants as rule
use Rattle.contents.specs.Limits.{contents_size}
use Rattle.contents.specs.Contents.{counts_of}
use Rattle.contents.specs.Entries.{entry_at}
use Rattle.session.specs.declared.Refusal.{Refusal}
use Rattle.session.specs.declared.Refusal.TheVariants.{MemoryShort, RoomShort, File, BadTempo, BadGrace, NoSession, NoEvent, NotAfter, BadMillis, ClockFull}
use Rattle.session.specs.Replies.{refusal_row}
use Rattle.contents.specs.declared.entries.Entry.{Entry}
use Rattle.contents.specs.declared.entries.Entry.TheVariants.{Nowhere, Contents, Event, Item, Message}
use Rattle.wording.specs.Words.{placed}

-- The entry at fault, where the refusal has a place and the file has its contents.
unfoldable pub entry_of : List ℕ → Refusal → Entry
entry_of f x = pick (placed x) (pick (leb contents_size (length f)) (entry_at (counts_of f) (refusal_row x).place) Nowhere) Nowhere

-- The names of the contents' fields, in their order.
unfoldable pub field_words : List (List ℕ)
field_words =
    bytes_of " offset of the events"
    ∷ bytes_of " count of events"
    ∷ bytes_of " offset of the items"
    ∷ bytes_of " count of items"
    ∷ bytes_of " offset of the messages"
    ∷ bytes_of " count of messages"
    ∷ bytes_of " offset of the text"
    ∷ bytes_of " count of text bytes"
    ∷ []

-- How many they are.
abbrev pub field_count : ℕ
field_count = 8

-- An entry's name, and room for it: its word, and a number of 20 digits.
unfoldable pub name_words : Entry → List ℕ
name_words Nowhere = []
name_words (Contents k) = get_or field_words k []
name_words (Event n) = bytes_of " event " ++ decimal n
name_words (Item n) = bytes_of " item " ++ decimal n
name_words (Message n) = bytes_of " message " ++ decimal n

abbrev pub name_room : ℕ
name_room = 29

unfoldable pub is_entry : Entry → Bool
is_entry Nowhere = false
is_entry (Contents k) = true
is_entry (Event n) = true
is_entry (Item n) = true
is_entry (Message n) = true

-- The name behind a mark, which is a comma or a colon, and room for both; nothing where there is no entry.
unfoldable pub entry_words : (mark : ℕ) → Entry → List ℕ
entry_words m e = pick (is_entry e) (m ∷ name_words e) []

abbrev pub comma : ℕ
comma = 44

abbrev pub colon : ℕ
colon = 58

abbrev pub entry_room : ℕ
entry_room = 30

-- "kind .., synchrony .., error word .., part .., delay .., event .., last". The field that a rule is about, and room for its name; the number of actions is about none.
unfoldable pub rule_field : ItemRule → List ℕ
rule_field rule.Kind = bytes_of ", kind"
rule_field rule.Synchrony = bytes_of ", synchrony"
rule_field rule.ErrorWord = bytes_of ", error word"
rule_field rule.Part = bytes_of ", part"
rule_field rule.Delay = bytes_of ", delay"
rule_field rule.Event = bytes_of ", event"
rule_field rule.Nesting = bytes_of ", last"
rule_field rule.Message = bytes_of ", last"
rule_field rule.Actions = []

abbrev pub rule_room : ℕ
rule_room = 12

-- The field at fault, where the refusal is an item's.
unfoldable pub fault_field : Fault → List ℕ
fault_field FileShort = []
fault_field (BadCount at) = []
fault_field (BadOffset at) = []
fault_field BadLength = []
fault_field (BadEvent at) = []
fault_field (BadItem r at) = rule_field r
fault_field (BadMessage at) = []
fault_field TextLeft = []
fault_field NoMessage = []

unfoldable pub refusal_field : Refusal → List ℕ
refusal_field MemoryShort = []
refusal_field RoomShort = []
refusal_field (File x) = fault_field x
refusal_field BadTempo = []
refusal_field BadGrace = []
refusal_field NoSession = []
refusal_field NoEvent = []
refusal_field NotAfter = []
refusal_field BadMillis = []
refusal_field ClockFull = []

-- An entry and the field of it that is at fault, as `, item 6, delay`, and room for both.
unfoldable pub named_words : (mark : ℕ) → Entry → Refusal → List ℕ
named_words m e x = entry_words m e ++ refusal_field x

abbrev pub named_room : ℕ
named_room = 42
