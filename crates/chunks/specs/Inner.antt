-- What reading on in a chunk and the last line ask and leave.
use Rattle.std.specs.Prelude.{◌≡◌, ℕ, ◌+◌, ◌-◌, ◌≤◌, ◌<◌, true, List, ◌++◌, length, take, drop}
use Rattle.ascii.specs.Laying.{Laid}
use Rattle.score.specs.File.{Accepted}
use Rattle.lines.specs.Input.{kept_bytes, kept_line, fed_of}
use Rattle.playing.specs.Inner.{Asked}
use Rattle.chunks.specs.declared.Progress.{Progress}
use Rattle.chunks.specs.declared.Step.{Step}
use Rattle.chunks.specs.Reading.{Reading, line_on, last_read}

-- Where reading stands: memory and room, the kept bytes of a line, and how far the input is read.
abbrev pub reading_of : (memory room line : List ℕ) → Progress → Reading
reading_of m room line p =
    record { stand = record { memory = m; room = room; opened = p.opened }; lines = p.lines; kept = take p.have line; grace = p.grace }

-- A place in the chunk, room for what is kept of a line, line numbers for as many lines as bytes are left, and what carrying out a line asks.
pub record Going (file chunk : List ℕ) (at : ℕ) (line : List ℕ) (p : Progress) (out : List ℕ) : Type 0 where
  pub place : at ≤ length chunk
  pub kept : p.have ≤ kept_bytes
  pub space : kept_bytes ≤ length line
  pub lines : p.lines + (length chunk - at) < 18446744073709551616
  pub asked : Asked file p.opened out

-- What reading on leaves: where the next line begins, what was printed, and in the line's first bytes what was kept of it; the others stay. It gets on wherever bytes are left.
pub record WentOn (f chunk : List ℕ) (at : ℕ) (m room l : List ℕ) (p : Progress) (out m' room' l' out' : List ℕ) (s : Step) : Type 0 where
  pub next : s.next ≡ (fed_of at (take p.have l) (drop at chunk)).next
  pub reading : reading_of m' room' l' s.progress ≡ (line_on f (reading_of m room l p) (drop at chunk)).reading
  pub output : Laid out 0 (line_on f (reading_of m room l p) (drop at chunk)).output out' s.count
  pub line : l' ≡ kept_line (take p.have l) (drop at chunk) ++ drop (length (kept_line (take p.have l) (drop at chunk))) l
  pub held : s.progress.have ≤ kept_bytes
  pub counted : s.progress.lines ≤ p.lines + 1
  pub accepted : s.progress.opened ≡ true → Accepted f
  pub within : s.next ≤ length chunk
  pub onward : at < length chunk → at < s.next

-- Memory, room and output after the last line.
pub record Ended (f : List ℕ) (r : Reading) (out m' room' out' : List ℕ) (count : ℕ) : Type 0 where
  pub memory : m' ≡ (last_read f r).reading.stand.memory
  pub room : room' ≡ (last_read f r).reading.stand.room
  pub output : Laid out 0 (last_read f r).output out' count
