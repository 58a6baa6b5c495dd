-- The lines that tell people of a refused opening and of a first line that opens nothing, and as much of a name as is told.
use Rattle.std.specs.Prelude.{ℕ, List, ◌++◌, take}
use Rattle.ascii.specs.Text.{bytes_of}
use Rattle.session.specs.declared.Refusal.{Refusal}
use Rattle.session.specs.declared.Refusal.TheVariants.{MemoryShort, RoomShort, File, BadTempo, BadGrace, NoSession, NoEvent, NotAfter, BadMillis, ClockFull}
use Rattle.refusals.specs.Line.{refusal_line}
use Rattle.telling.specs.declared.said.Blame.{Blame}
use Rattle.telling.specs.declared.said.Blame.TheVariants.{Score, Grace, Line}

-- A name is told up to this many bytes.
abbrev pub most_name : ℕ
most_name = 4352

-- Room for any line that has a name in front.
abbrev pub said_room : ℕ
said_room = 4608

-- What is told of a name: what is longer is cut.
unfoldable pub told_name : List ℕ → List ℕ
told_name name = take most_name name

-- What a refusal is for: the score file, the grace, or the first line of the commands.
unfoldable pub blamed : Refusal → Blame
blamed MemoryShort = Line
blamed RoomShort = Line
blamed (File x) = Score
blamed BadTempo = Line
blamed BadGrace = Grace
blamed NoSession = Line
blamed NoEvent = Line
blamed NotAfter = Line
blamed BadMillis = Line
blamed ClockFull = Line

-- The name by which that is told: the grace's is the one that the usage has.
unfoldable pub refused_name : (score first : List ℕ) → Blame → List ℕ
refused_name score first Score = score
refused_name score first Grace = bytes_of "GRACE"
refused_name score first Line = first

-- The line of a refusal of what has this name, with the entry of the score's bytes that is at fault.
unfoldable pub refused_line : (name file : List ℕ) → Refusal → List ℕ
refused_line name file x = refusal_line (told_name name) file x

-- What is wrong with a first line that opens nothing, what follows from it, and what to write.
unfoldable pub unopened_line : (first : List ℕ) → List ℕ
unopened_line first = told_name first ++ bytes_of ": opens no score, so nothing is played. The first line of the commands has to be O PARTS TEMPO and no more, as O 65535 5040 (docs/PLAY.md)\n"
