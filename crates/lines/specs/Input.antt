-- "A line ends at a newline byte or the input's end". Input comes in chunks, and a line is kept as far as a readable one can reach.
use Rattle.std.specs.Prelude.{ℕ, ◌+◌, ◌≤◌, ◌<◌, ◌≡◌, true, false, List, ◌++◌, ltb, length, take, drop}
use Rattle.base.specs.Tests.{pick}
use Rattle.ascii.specs.Words.{newline, bytes_before}
use Rattle.lines.specs.declared.Fed.{Fed}

-- One byte more than the longest readable line has: `O`, two numbers of 10 digits and two spaces are 23.
abbrev pub kept_bytes : ℕ
kept_bytes = 24

-- How many bytes stand before the first newline.
unfoldable pub line_length : List ℕ → ℕ
line_length bs = bytes_before newline bs

-- The line so far, with the bytes of the chunk up to its first newline: as much of it as is kept.
unfoldable pub kept_line : (kept chunk : List ℕ) → List ℕ
kept_line kept chunk = take kept_bytes (kept ++ take (line_length chunk) chunk)

-- Where the next line begins in the chunk, whose bytes from at on these are, how much is kept, and whether the line has ended.
unfoldable pub fed_of : ℕ → (kept chunk : List ℕ) → Fed
fed_of at kept chunk =
    pick (ltb (line_length chunk) (length chunk))
    (record { next = at + line_length chunk + 1; have = length (kept_line kept chunk); ended = true })
    (record { next = at + line_length chunk; have = length (kept_line kept chunk); ended = false })

-- What reading on asks: a place in the chunk, and room for as much of a line as is kept.
pub record Feedable (chunk : List ℕ) (at : ℕ) (line : List ℕ) (have : ℕ) : Type 0 where
  pub place : at ≤ length chunk
  pub kept : have ≤ kept_bytes
  pub room : kept_bytes ≤ length line

-- What reading on leaves: the answer, and in the room what is kept of the line; the room's other bytes stay. It gets on wherever bytes are left.
pub record Feeds (chunk : List ℕ) (at : ℕ) (line : List ℕ) (have : ℕ) (new : List ℕ) (r : Fed) : Type 0 where
  pub answer : r ≡ fed_of at (take have line) (drop at chunk)
  pub kept : take r.have new ≡ kept_line (take have line) (drop at chunk)
  pub others : drop r.have new ≡ drop r.have line
  pub held : r.have ≤ kept_bytes
  pub within : r.next ≤ length chunk
  pub onward : at < length chunk → at < r.next
  pub size : length new ≡ length line
