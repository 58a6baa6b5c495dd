-- The places of a session's 8,192 words: what stays the same from the opening on first, then what changes.
use Rattle.std.specs.Prelude.{ℕ, List, get_or}
pub use Rattle.rules.specs.Terms.{most_grace}
use Rattle.fates.specs.declared.Places.{Places}

-- "session memory under 8,192 words", "send room under 2,048 words"
abbrev pub memory_size : ℕ
memory_size = 8192

abbrev pub room_size : ℕ
room_size = 2048

-- As many messages as the send room holds.
abbrev pub most_sent : ℕ
most_sent = 1024

-- The limits of document 01's numbers.
abbrev pub most_tempo : ℕ
most_tempo = 50400

abbrev pub most_millis : ℕ
most_millis = 1000

abbrev pub clock_end : ℕ
clock_end = 1000000000000000

-- ---- what stays

abbrev pub mark_at : ℕ
mark_at = 0

abbrev pub event_count_at : ℕ
event_count_at = 1

abbrev pub item_count_at : ℕ
item_count_at = 2

abbrev pub parts_at : ℕ
parts_at = 3

abbrev pub grace_at : ℕ
grace_at = 4

-- E(k) at place k, for events 1 to 256.
abbrev pub starts_at : ℕ
starts_at = 16

-- A word for each item.
abbrev pub page_at : ℕ
page_at = 288

-- ---- what changes

abbrev pub clock_at : ℕ
clock_at = 2336

abbrev pub tempo_at : ℕ
tempo_at = 2337

abbrev pub last_at : ℕ
last_at = 2338

abbrev pub total_at : ℕ
total_at = 2339

-- What has become of event k, at place k.
abbrev pub taken_at : ℕ
taken_at = 2352

-- A slot for each item: 0 not decided, 1 dropped, 2 sent, 3 and the due date waiting.
abbrev pub slots_at : ℕ
slots_at = 2624

-- Where the evaluators leave outcomes.
abbrev pub outcomes_at : ℕ
outcomes_at = 4672

-- What word 0 of a session says, so that no other memory is taken for one: the letters Poolmir1.
abbrev pub mark : ℕ
mark = 5795973756931895857

abbrev pub word_at : List ℕ → ℕ → ℕ
word_at m at = get_or m at 0

-- Where the evaluators find a session's words, and the grace.
abbrev pub places_of : List ℕ → Places
places_of m =
    record {
      starts = starts_at;
      taken = taken_at;
      items = page_at;
      outcomes = outcomes_at;
      events = word_at m event_count_at;
      size = word_at m item_count_at;
      grace = record { 0 = word_at m grace_at };
    }
