-- The words of the grammar, and the fields of its numbers.
use Rattle.std.specs.Prelude.{ℕ, ◌^◌, List}
use Rattle.ascii.specs.Text.{bytes_of}

abbrev pub messages_word : List ℕ
messages_word = bytes_of "messages"

abbrev pub event_word : List ℕ
event_word = bytes_of "event"

abbrev pub part_word : List ℕ
part_word = bytes_of "part"

abbrev pub send_word : List ℕ
send_word = bytes_of "send"

abbrev pub group_word : List ℕ
group_word = bytes_of "group"

-- "the two words spelled out"
abbrev pub loose_word : List ℕ
loose_word = bytes_of "loose"

abbrev pub tight_word : List ℕ
tight_word = bytes_of "tight"

abbrev pub local_word : List ℕ
local_word = bytes_of "local"

abbrev pub global_word : List ℕ
global_word = bytes_of "global"

abbrev pub partial_word : List ℕ
partial_word = bytes_of "partial"

abbrev pub causal_word : List ℕ
causal_word = bytes_of "causal"

-- "a message number after `send` below 65,536; a part below 256"
abbrev pub message_field : ℕ
message_field = 65536

abbrev pub part_field : ℕ
part_field = 256

-- "1 to 10 digits": any number that can be written.
abbrev pub any_number : ℕ
any_number = 10 ^ 10
