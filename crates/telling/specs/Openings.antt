-- Whether a line of the input is an opening that is refused, and how that is read off what the line printed: that both agree is a theorem (proofs/OpeningLaws). And that the grace is what it is refused for, or that a first line opens nothing, read off in the same way.
use Rattle.std.specs.Prelude.{ℕ, Bool, false, not, List, eqb, Option, Some, None}
use Rattle.base.specs.Tests.{pick}
use Rattle.ascii.specs.Text.{bytes_of}
use Rattle.ascii.specs.Words.{begins, same}
use Rattle.lines.specs.declared.Command.{Command}
use Rattle.lines.specs.declared.Command.TheVariants.{Open, Hear, Pass}
use Rattle.lines.specs.Words.{open_word}
use Rattle.lines.specs.Commands.{command_of, in_turn}
use Rattle.playing.specs.Printed.{Stand, carried_by}

-- What an opening prints that was granted begins so.
abbrev pub granted_word : List ℕ
granted_word = bytes_of "open 0 "

-- What was printed is an opening's line, with another number than 0.
unfoldable pub tells_refusal : (printed : List ℕ) → Bool
tells_refusal bs = pick (begins granted_word bs) false (begins open_word bs)

-- What was printed is the line of an opening that is refused for its grace.
unfoldable pub tells_grace : (printed : List ℕ) → Bool
tells_grace bs = begins (bytes_of "open 19 ") bs

-- What was printed is the line of a first line that is bad: without an opening every later line is bad as well.
unfoldable pub tells_unopened : (printed : List ℕ) → Bool
tells_unopened bs = same (bytes_of "bad 1\n") bs

-- A command is an opening, and no session is open after it.
unfoldable pub refused_by : (file : List ℕ) → (grace line : ℕ) → Stand → Option Command → Bool
refused_by f g n s (Some (Open parts tempo)) = not (carried_by f g n s (Some (Open parts tempo))).stand.opened
refused_by f g n s (Some (Hear event tempo)) = false
refused_by f g n s (Some (Pass ms)) = false
refused_by f g n s None = false

-- Line n of the input is an opening that is refused.
unfoldable pub opening_refused : (file : List ℕ) → (grace line : ℕ) → Stand → List ℕ → Bool
opening_refused f g n s l = refused_by f g n s (in_turn (eqb n 1) s.opened (command_of l))
