-- The rows of a table of items in words.
use Rattle.std.specs.Prelude.{ℕ}

-- Kind, last and times, an item's shape, and a fourth word that is no part of it.
abbrev pub row_words : ℕ
row_words = 4

-- A word has 32 bits.
abbrev pub word_range : ℕ
word_range = 4294967296
