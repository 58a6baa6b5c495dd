-- What a run prints, `play`'s or one with a grace, by the score and the history of the calls alone: nothing of what session memory or a send room holds.
use Rattle.std.specs.Prelude.{ℕ, ◌+◌, List, [], ◌∷◌, ◌++◌, length, Option, Some, None}
use Rattle.base.specs.Checks.{Check, fine, refused}
use Rattle.score.specs.Piece.{decode}
use Rattle.score.specs.LookUp.{label_bytes}
use Rattle.rules.specs.Terms.{Terms}
use Rattle.rules.specs.Page.{Entry}
use Rattle.session.specs.declared.Refusal.{Refusal}
use Rattle.session.specs.Layout.{memory_size, room_size}
use Rattle.session.specs.Parts.{sounds, sounding_below}
use Rattle.session.specs.Replies.{refusal_row}
use Rattle.opening.specs.Opening.{zeros, opening_check}
use Rattle.demands.specs.History.{Call, note, pass, Now, start, verdict, moved, after}
use Rattle.demands.specs.Messages.{Sent}
use Rattle.demands.specs.Answers.{messages_of, messages_by, sounding_in}
use Rattle.lines.specs.declared.Command.{Command}
use Rattle.lines.specs.declared.Command.TheVariants.{Open, Hear, Pass}
use Rattle.lines.specs.Lines.{lines_of}
use Rattle.lines.specs.Commands.{command_of}
use Rattle.lines.specs.Output.{open_line, message_line, no_line, bad_line, end_line}

-- ---- a call

-- "per message clock, due date, part and label"
unfoldable pub message_told : (file : List ℕ) → (clock : ℕ) → Sent → List ℕ
message_told f k x = message_line k x.due x.part (label_bytes f x.message)

unfoldable pub messages_told : (file : List ℕ) → (clock : ℕ) → List Sent → List ℕ
messages_told f k [] = []
messages_told f k (x ∷ l) = message_told f k x ++ messages_told f k l

-- "`no N` for a refused call"
unfoldable pub sending_told : (file : List ℕ) → Check Refusal → (clock : ℕ) → List Sent → List ℕ
sending_told f fine k l = messages_told f k l
sending_told f (refused x) k l = no_line (refusal_row x).number

-- By the history before it: whether it is refused, the clock after it, and the messages that the rules give these sequences.
unfoldable pub call_told : (file durations : List ℕ) → List Entry → Now → Call → List ℕ
call_told f ds es s c = sending_told f (verdict (length ds) s c) (moved s c).clock (messages_of ds es s c)

-- ---- a line

-- What a line after the opening asks for: a call, or none.
pub data Asking : Type 0 where
  call : Call → Asking
  none : Asking

-- The send room is of the length that is asked for. An `O` is out of turn after the first line.
unfoldable pub asked_by : Option Command → Asking
asked_by (Some (Open parts tempo)) = none
asked_by (Some (Hear event tempo)) = call (note (zeros room_size) event tempo)
asked_by (Some (Pass ms)) = call (pass (zeros room_size) ms)
asked_by None = none

-- These lines, of which the first is line n, and the end: "`bad L` for line L that it can't read or that comes out of turn"; "last `end K sent S`". So far total
-- messages were sent.
unfoldable pub told_from : (file durations : List ℕ) → List Entry → (line total : ℕ) → Now → List (List ℕ) → List ℕ
told_from f ds es n total s [] = end_line s.clock total
told_from f ds es n total s (l ∷ ls) =
    elim (asked_by (command_of l)) [
      | call c ↦ call_told f ds es s c ++ told_from f ds es (n + 1) (total + length (messages_by ds es s c)) (after (length ds) s c) ls
      | none ↦ bad_line n ++ told_from f ds es (n + 1) total s ls
    ]

-- ---- without a session

-- "Out of turn are an `O` on any line but the first, and `H` or `T` before an opening that was granted": these lines, of which the first is line n, are all bad. "clock
-- and total, both 0 without a session"
unfoldable pub unopened_from : (line : ℕ) → List (List ℕ) → List ℕ
unopened_from n [] = end_line 0 0
unopened_from n (l ∷ ls) = bad_line n ++ unopened_from (n + 1) ls

-- ---- the whole input

-- "`open N parts C` (reply number, sounding parts, 0 if refused)", and the lines after it.
unfoldable pub opening_told : (file : List ℕ) → Terms → Check Refusal → List (List ℕ) → List ℕ
opening_told f o fine ls = open_line 0 (sounding_below o.parts 16) ++ told_from f (decode f).durations (sounding_in f (sounds o.parts)) 2 0 (start o) ls
opening_told f o (refused x) ls = open_line (refusal_row x).number 0 ++ unopened_from 2 ls

-- By what the first line asks for: an opening with this grace, in 8,192 words, or nothing that is in turn.
unfoldable pub first_told : (file : List ℕ) → (grace : ℕ) → Option Command → (line : List ℕ) → List (List ℕ) → List ℕ
first_told f g (Some (Open parts tempo)) l ls =
    let o : Terms = record { parts = parts; tempo = tempo; grace = g } in
    opening_told f o (opening_check (zeros memory_size) f o) ls
first_told f g (Some (Hear event tempo)) l ls = unopened_from 1 (l ∷ ls)
first_told f g (Some (Pass ms)) l ls = unopened_from 1 (l ∷ ls)
first_told f g None l ls = unopened_from 1 (l ∷ ls)

unfoldable pub lines_told : (file : List ℕ) → (grace : ℕ) → List (List ℕ) → List ℕ
lines_told f g [] = unopened_from 1 []
lines_told f g (l ∷ ls) = first_told f g (command_of l) l ls

-- What is printed, where the opening is given this grace. "`play` opens with grace 0."
unfoldable pub told : (file : List ℕ) → (grace : ℕ) → (input : List ℕ) → List ℕ
told f g input = lines_told f g (lines_of input)
