-- The input as it is read, in whatever pieces it comes: what is kept of it, and what has been printed. That this prints what `play` prints is a theorem (proofs/Chunks).
use Rattle.std.specs.Prelude.{ℕ, ◌+◌, List, [], ◌∷◌, ◌++◌, eqb, ltb, length, take}
use Rattle.base.specs.Tests.{pick}
use Rattle.ascii.specs.Words.{newline}
use Rattle.lines.specs.Input.{kept_bytes, line_length, kept_line}
use Rattle.playing.specs.Printed.{Stand, carried, ending, outset}

-- Where reading stands: how many lines have ended, what is kept of the next, and the grace that an opening is given.
pub record Reading : Type 0 where
  pub stand : Stand
  pub lines : ℕ
  pub kept : List ℕ
  pub grace : ℕ

-- Bytes read: where reading stands after them, and what was printed at them.
pub record ReadOn : Type 0 where
  pub reading : Reading
  pub output : List ℕ

-- One line more has ended, with these bytes kept of it.
unfoldable pub line_read : (file : List ℕ) → Reading → ReadOn
line_read f r =
    let c = carried f r.grace (r.lines + 1) r.stand r.kept in
    record { reading = record { stand = c.stand; lines = r.lines + 1; kept = []; grace = r.grace }; output = c.output }

unfoldable pub byte_kept : Reading → ℕ → ReadOn
byte_kept r b =
    record { reading = record { stand = r.stand; lines = r.lines; kept = take kept_bytes (r.kept ++ (b ∷ [])); grace = r.grace }; output = [] }

unfoldable pub bytes_read : (file : List ℕ) → Reading → List ℕ → ReadOn
bytes_read f r [] = record { reading = r; output = [] }
bytes_read f r (b ∷ bs) =
    let x = pick (eqb b newline) (line_read f r) (byte_kept r b) in
    let y = bytes_read f x.reading bs in
    record { reading = y.reading; output = x.output ++ y.output }

-- The rest of a chunk, up to its first line's end or to its own.
unfoldable pub line_on : (file : List ℕ) → Reading → List ℕ → ReadOn
line_on f r rest =
    let k : Reading = record { stand = r.stand; lines = r.lines; kept = kept_line r.kept rest; grace = r.grace } in
    pick (ltb (line_length rest) (length rest)) (line_read f k) (record { reading = k; output = [] })

-- "nothing after the last newline is no line"
unfoldable pub last_read : (file : List ℕ) → Reading → ReadOn
last_read f r = elim r.kept [ [] ↦ record { reading = r; output = [] } | b ∷ bs ↦ line_read f r ]

-- The input's end: the line that is left, if any is, and the end.
unfoldable pub end_read : (file : List ℕ) → Reading → List ℕ
end_read f r = (last_read f r).output ++ ending (last_read f r).reading.stand.memory

-- Before the first byte.
unfoldable pub nothing_read : (grace : ℕ) → Reading
nothing_read g = record { stand = outset; lines = 0; kept = []; grace = g }

-- Chunks one after the other.
unfoldable pub chunks_read : (file : List ℕ) → Reading → List (List ℕ) → ReadOn
chunks_read f r [] = record { reading = r; output = [] }
chunks_read f r (c ∷ cs) =
    let x = bytes_read f r c in
    let y = chunks_read f x.reading cs in
    record { reading = y.reading; output = x.output ++ y.output }

-- The chunks joined.
unfoldable pub input_of : List (List ℕ) → List ℕ
input_of [] = []
input_of (c ∷ cs) = c ++ input_of cs
