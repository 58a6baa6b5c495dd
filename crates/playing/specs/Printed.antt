-- "The program `play` reads the file `score.bin` and commands from standard input": what is printed, from the bytes of the one and of the other, and a grace.
use Rattle.std.specs.Prelude.{ℕ, ◌+◌, ◌/◌, ◌%◌, Bool, false, List, [], ◌∷◌, ◌++◌, eqb, Option, Some, None, Result, Ok, Err}
use Rattle.score.specs.LookUp.{label_bytes}
use Rattle.session.specs.declared.Refusal.{Refusal}
use Rattle.session.specs.Layout.{memory_size, room_size}
use Rattle.session.specs.Replies.{refusal_row}
use Rattle.sending.specs.Room.{Message, pairs_in}
use Rattle.opening.specs.Opening.{zeros, OpeningResult, opened}
use Rattle.opening.specs.Replies.{opening_reply}
use Rattle.sequencer.specs.declared.Figures.{Figures}
use Rattle.sequencer.specs.Replies.{report_reply}
use Rattle.sequencer.specs.Calls.{SendingResult, heard_note, passing_time, reported}
use Rattle.lines.specs.declared.Command.{Command}
use Rattle.lines.specs.declared.Command.TheVariants.{Open, Hear, Pass}
use Rattle.lines.specs.Lines.{lines_of}
use Rattle.lines.specs.Commands.{command_of, in_turn}
use Rattle.lines.specs.Output.{open_line, message_line, no_line, bad_line, end_line}

-- ---- a line carried out

-- Where a run stands between two lines: the session memory, the send room, and whether an opening was granted.
pub record Stand : Type 0 where
  pub memory : List ℕ
  pub room : List ℕ
  pub opened : Bool

-- A line carried out: where the run stands after it, and the bytes that it prints.
pub record Carried : Type 0 where
  pub stand : Stand
  pub output : List ℕ

-- What the report gives: every figure is 0 where there is no session.
unfoldable pub figures_of : List ℕ → Figures
figures_of m = (report_reply (reported m)).figures

-- "per message clock, due date, part and label", of the send room's "part x 65,536 + message number"
unfoldable pub sent_line : (file : List ℕ) → (clock : ℕ) → Message → List ℕ
sent_line f k x = message_line k x.due (x.word / 65536) (label_bytes f (x.word % 65536))

unfoldable pub sent_lines : (file : List ℕ) → (clock : ℕ) → List Message → List ℕ
sent_lines f k [] = []
sent_lines f k (x ∷ l) = sent_line f k x ++ sent_lines f k l

-- "`no N` for a refused call"
unfoldable pub sending_lines : (file memory room : List ℕ) → Result ℕ Refusal → List ℕ
sending_lines f m room (Ok c) = sent_lines f (figures_of m).clock (pairs_in c 0 room)
sending_lines f m room (Err x) = no_line (refusal_row x).number

-- "`open N parts C` (reply number, sounding parts, 0 if refused)"
unfoldable pub carried_opening : (room : List ℕ) → OpeningResult → Carried
carried_opening room r =
    let y = opening_reply r.reply in
    record { stand = record { memory = r.memory; room = room; opened = eqb y.number 0 }; output = open_line y.number y.parts }

unfoldable pub carried_sending : (file : List ℕ) → Bool → SendingResult → Carried
carried_sending f o r =
    record { stand = record { memory = r.memory; room = r.room; opened = o }; output = sending_lines f r.memory r.room r.reply }

-- "`bad L` for line L that it can't read or that comes out of turn". The run's opening is given its grace.
unfoldable pub carried_by : (file : List ℕ) → (grace line : ℕ) → Stand → Option Command → Carried
carried_by f g n s (Some (Open parts tempo)) = carried_opening s.room (opened s.memory f (record { parts = parts; tempo = tempo; grace = g }))
carried_by f g n s (Some (Hear event tempo)) = carried_sending f s.opened (heard_note s.memory s.room event tempo)
carried_by f g n s (Some (Pass ms)) = carried_sending f s.opened (passing_time s.memory s.room ms)
carried_by f g n s None = record { stand = s; output = bad_line n }

-- Line n of the input. An opening is "first, once".
unfoldable pub carried : (file : List ℕ) → (grace line : ℕ) → Stand → List ℕ → Carried
carried f g n s l = carried_by f g n s (in_turn (eqb n 1) s.opened (command_of l))

-- ---- the whole input

-- "last `end K sent S` (clock and total, both 0 without a session)"
unfoldable pub ending : (memory : List ℕ) → List ℕ
ending m = end_line (figures_of m).clock (figures_of m).total

-- These lines, of which the first is line n, and the end.
unfoldable pub printed_from : (file : List ℕ) → (grace line : ℕ) → Stand → List (List ℕ) → List ℕ
printed_from f g n s [] = ending s.memory
printed_from f g n s (l ∷ ls) = (carried f g n s l).output ++ printed_from f g (n + 1) (carried f g n s l).stand ls

-- Memory and room of zeros, which is no session.
unfoldable pub outset : Stand
outset = record { memory = zeros memory_size; room = zeros room_size; opened = false }

-- What is printed, where the opening is given this grace. "`play` opens with grace 0."
unfoldable pub printed : (file : List ℕ) → (grace : ℕ) → (input : List ℕ) → List ℕ
printed f g input = printed_from f g 1 outset (lines_of input)
