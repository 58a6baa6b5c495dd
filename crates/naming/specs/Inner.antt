-- Keys of labels, and what the functions inside ask and promise. No promise of a call needs it.
use Rattle.std.specs.Prelude.{ℕ, ◌+◌, ◌-◌, ◌*◌, ◌≤◌, ◌<◌, ◌≡◌, Bool, true, false, List, [], ◌∷◌, leb, ltb, eqb, ℤ, length, take, get_or, set, Option, Some, None}
use Rattle.base.specs.Tests.{pick, every, between}
use Rattle.ascii.specs.Words.{zero_digit, nine_digit, bytes_before}
use Rattle.contents.specs.Limits.{message_size, most_messages, most_text}
use Rattle.contents.specs.Bytes.{u16_at, part}
use Rattle.values.specs.Digits.{minus}
use Rattle.values.specs.Integers.{whole_range}
use Rattle.values.specs.Inner.{most_digits}
pub use Rattle.filing.specs.Bodies.{ListRoom}
use Rattle.unfolding.specs.Messages.{Entry, Messages, entries_from, entries_bytes, number_in, number_of, joined, with_value}
use Rattle.naming.specs.declared.places.Place.{Place}
use Rattle.naming.specs.Named.{fits}

-- ---- keys

-- 1 to 10 for a digit, 11 for a minus sign, 0 for any other byte.
abbrev pub most_symbol : ℕ
most_symbol = 11

unfoldable pub symbol : ℕ → ℕ
symbol b = pick (eqb b minus) 11 (pick (between zero_digit nine_digit b) (b - 47) 0)

unfoldable pub all_symbols : List ℕ → Bool
all_symbols [] = true
all_symbols (b ∷ bs) = every (ltb 0 (symbol b) ∷ all_symbols bs ∷ [])

unfoldable pub folded : List ℕ → ℕ
folded [] = 0
folded (b ∷ bs) = symbol b + 16 * folded bs

-- Of a label that could be a value's digits; 0 for any other.
unfoldable pub key_of : List ℕ → ℕ
key_of bs = pick (every (leb (length bs) most_digits ∷ all_symbols bs ∷ [])) (folded bs) 0

-- Of a message: 0 where it doesn't lie within the text.
unfoldable pub key_in : List ℕ → Entry → ℕ
key_in text e = pick (leb (e.start + e.size) (length text)) (key_of (part text e.start e.size)) 0

unfoldable pub keys_of : List ℕ → List Entry → List ℕ
keys_of text [] = []
keys_of text (e ∷ es) = key_in text e ∷ keys_of text es

-- ---- the list as it stands in lent bytes

unfoldable pub entry_at : List ℕ → ℕ → Entry
entry_at e at = record { start = u16_at e at; size = u16_at e (at + 2) }

unfoldable pub messages_in : (entries labels : List ℕ) (n text : ℕ) → Messages
messages_in e l n t = record { entries = entries_from e 0 n; text = take t l }

-- Each entry lies within so many bytes of text.
unfoldable pub all_within : ℕ → List Entry → Bool
all_within text [] = true
all_within text (e ∷ es) = every (leb (e.start + e.size) text ∷ all_within text es ∷ [])

-- The first n entries are within the limits, so is the text, and the bytes of the entries are theirs.
pub record Standing (e l : List ℕ) (n text : ℕ) : Type 0 where
  pub few : n ≤ most_messages
  pub short : text ≤ most_text
  pub room : ListRoom e l
  pub bytes : take (message_size * n) e ≡ entries_bytes (entries_from e 0 n)

-- The entries of a file, copied.
pub record Copied (f : List ℕ) (at count : ℕ) (e : List ℕ) : Type 0 where
  pub entries : entries_from e 0 count ≡ entries_from f at count
  pub bytes : take (message_size * count) e ≡ entries_bytes (entries_from e 0 count)

-- Where every message lies within the text, each has its key. There is room for one behind the last.
pub record Keyed (inside : Bool) (e l : List ℕ) (n text : ℕ) (keys : List ℕ) : Type 0 where
  pub key_room : most_messages < length keys
  pub within : inside ≡ true → all_within text (entries_from e 0 n) ≡ true
  pub keys_right : inside ≡ true → take n keys ≡ keys_of (take text l) (entries_from e 0 n)

-- ---- searches

-- The key stands behind the first n keys, and here for the first time.
pub record KeyFound (keys : List ℕ) (n key : ℕ) (keys' : List ℕ) (r : ℕ) : Type 0 where
  pub number : r ≡ bytes_before key (take n keys)
  pub most : r ≤ n
  pub put : keys' ≡ set keys n key

-- The name is some value's digits, and the keys are right where they are asked.
pub record Searchable (e : List ℕ) (n : ℕ) (text : List ℕ) (inside : Bool) (keys name : List ℕ) : Type 0 where
  pub key_room : n < length keys
  pub room : message_size * n ≤ length e
  pub keys_right : inside ≡ true → take n keys ≡ keys_of text (entries_from e 0 n)
  pub name_short : length name ≤ most_digits
  pub name_some : 0 < length name
  pub name_symbols : all_symbols name ≡ true

pub record Finds (e : List ℕ) (n : ℕ) (text name keys keys' : List ℕ) (r : ℕ) : Type 0 where
  pub number : r ≡ number_in text name (entries_from e 0 n)
  pub most : r ≤ n
  pub put : keys' ≡ set keys n (key_of name)

-- ---- a value's place

-- The message joined the n of the list at its end, or the list would pass a limit.
pub data Joins (m : Messages) (name e l : List ℕ) (n : ℕ) : Option Place → Type 0 where
  joins : {p : Place} → p.number ≡ n → p.messages ≡ n + 1 → messages_in e l (n + 1) p.text ≡ joined m name → Standing e l (n + 1) p.text → Joins m name e l n (Some p)
  joins_none : fits (joined m name) ≡ false → Joins m name e l n None

-- The value has this number, and the list stands there as it is with it; or it would pass a limit.
pub data Placed (m : Messages) (v : ℤ) (e l : List ℕ) (inside : Bool) (keys : List ℕ) : Option Place → Type 0 where
  placed : {p : Place} → p.number ≡ number_of m v → p.number ≤ most_messages → messages_in e l p.messages p.text ≡ with_value m v → Standing e l p.messages p.text
      → Keyed inside e l p.messages p.text keys → Placed m v e l inside keys (Some p)
  placed_none : fits (with_value m v) ≡ false → Placed m v e l inside keys None

-- ---- all values

pub record EachAsked (values : List ℕ) (count : ℕ) (numbers : List ℕ) : Type 0 where
  pub count_there : count ≤ length values
  pub small : (j : ℕ) → j < count → get_or values j 0 < whole_range
  pub numbers_room : count ≤ length numbers
