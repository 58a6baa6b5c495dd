-- The numbers of document 01's section 'The score file'.
use Rattle.std.specs.Prelude.{ℕ}

-- "The contents are 32 bytes"
abbrev pub contents_size : ℕ
contents_size = 32

-- "Event: 4 bytes", "Item: 12 bytes", "Message: 4 bytes"
abbrev pub event_size : ℕ
event_size = 4

abbrev pub item_size : ℕ
item_size = 12

abbrev pub message_size : ℕ
message_size = 4

-- "its duration in grains, 1 to 5,040,000"; "delay (u32, 0 to 5,040,000)"
abbrev pub longest : ℕ
longest = 5040000

-- "there are 1 to 256"
abbrev pub most_events : ℕ
most_events = 256

-- "Items: 0 to 2,048, of them at most 1,024 actions."
abbrev pub most_items : ℕ
most_items = 2048

abbrev pub most_actions : ℕ
most_actions = 1024

-- "part (0 to 15)"
abbrev pub last_part : ℕ
last_part = 15

-- "depth 8 is accepted, 9 refused"
abbrev pub deepest : ℕ
deepest = 8

-- "Messages: 0 to 512; text: 0 to 24,576 bytes."
abbrev pub most_messages : ℕ
most_messages = 512

abbrev pub most_text : ℕ
most_text = 24576

-- "Length 1 to 48."
abbrev pub longest_label : ℕ
longest_label = 48

-- The longest score: its contents, and each body at its limit.
abbrev pub longest_score : ℕ
longest_score = 52256
