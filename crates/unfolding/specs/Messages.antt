-- The list of messages, to whose end values are added: "A value's message is the first one of the list, as it then stands, with just those bytes".
use Rattle.std.specs.Prelude.{ℕ, zero, suc, ◌+◌, Bool, List, [], ◌∷◌, ◌++◌, leb, ltb, ℤ, length}
use Rattle.base.specs.Tests.{pick, every}
use Rattle.ascii.specs.Words.{same}
use Rattle.contents.specs.Limits.{message_size}
use Rattle.contents.specs.Bytes.{u16_at, part}
use Rattle.score.specs.Encode.{le16}
use Rattle.values.specs.Digits.{digits}

-- "Message: 4 bytes, start and length (u16) in the text."
pub record Entry : Type 0 where
  pub start : ℕ
  pub size : ℕ

pub record Messages : Type 0 where
  pub entries : List Entry
  pub text : List ℕ

-- The count entries from the byte at on, and entries as bytes.
unfoldable pub entries_from : List ℕ → ℕ → ℕ → List Entry
entries_from f at zero = []
entries_from f at (suc count) = record { start = u16_at f at; size = u16_at f (at + 2) } ∷ entries_from f (at + message_size) count

unfoldable pub entries_bytes : List Entry → List ℕ
entries_bytes [] = []
entries_bytes (e ∷ es) = le16 e.start ++ (le16 e.size ++ entries_bytes es)

-- "with just those bytes"; "An entry that doesn't lie within the text as it then stands is no value's message."
unfoldable pub is_named : (text name : List ℕ) → Entry → Bool
is_named text name e = every (leb (e.start + e.size) (length text) ∷ same name (part text e.start e.size) ∷ [])

-- The number of the first message so named; where there is none, the number after the last, which is the new one's.
unfoldable pub number_in : (text name : List ℕ) → List Entry → ℕ
number_in text name [] = 0
number_in text name (e ∷ es) = pick (is_named text name e) 0 (suc (number_in text name es))

unfoldable pub number_of : Messages → ℤ → ℕ
number_of m v = number_in m.text (digits v) m.entries

-- "else it is added at the end, in page order, its label at the text's end"
unfoldable pub joined : Messages → List ℕ → Messages
joined m name = record { entries = m.entries ++ (record { start = length m.text; size = length name } ∷ []); text = m.text ++ name }

unfoldable pub with_value : Messages → ℤ → Messages
with_value m v = pick (ltb (number_of m v) (length m.entries)) m (joined m (digits v))

-- Values one after the other: the list after them, and their message numbers.
unfoldable pub with_values : Messages → List ℤ → Messages
with_values m [] = m
with_values m (v ∷ vs) = with_values (with_value m v) vs

unfoldable pub numbers_of : Messages → List ℤ → List ℕ
numbers_of m [] = []
numbers_of m (v ∷ vs) = number_of m v ∷ numbers_of (with_value m v) vs
