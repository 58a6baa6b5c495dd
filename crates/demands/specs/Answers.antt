-- The replies to an opening and to a list of calls after it, from the score and the history alone.
use Rattle.std.specs.Prelude.{ℕ, ◌+◌, ◌*◌, Bool, List, [], ◌∷◌, map, length, Ok, Err}
use Rattle.base.specs.Checks.{Check, fine, refused}
use Rattle.contents.specs.declared.Reply.{Reply}
use Rattle.contents.specs.Replies.{reply_of, verdict_of}
use Rattle.score.specs.LookUp.{label_reply, label_bytes}
use Rattle.score.specs.Piece.{decode}
use Rattle.rules.specs.Terms.{Terms}
use Rattle.rules.specs.Page.{Entry, entries}
use Rattle.rules.specs.Parts.{sounding_entries}
use Rattle.session.specs.declared.Refusal.{Refusal}
use Rattle.session.specs.Parts.{sounds, sounding_below}
use Rattle.sending.specs.Room.{Message, filled}
use Rattle.opening.specs.declared.OpeningReply.{OpeningReply}
use Rattle.sequencer.specs.declared.SendingReply.{SendingReply}
use Rattle.sequencer.specs.declared.ReportReply.{ReportReply}
use Rattle.sequencer.specs.Replies.{sending_reply, report_reply}
use Rattle.demands.specs.History.{Call, note, pass, report, look_up, Now, start, verdict, moved, after}
use Rattle.demands.specs.Messages.{Sent, sent_between}

-- A call's answer: the reply, and the send room as it comes back; or the label's bytes.
pub data Answer : Type 0 where
  opening : OpeningReply → Answer
  sending : SendingReply → (room : List ℕ) → Answer
  reporting : ReportReply → Answer
  looking : Reply → (label : List ℕ) → Answer

-- "its due date on the clock and part x 65,536 + message number"
unfoldable pub message_of : Sent → Message
message_of x = record { due = x.due; word = x.part * 65536 + x.message }

unfoldable pub sending_answer : Check Refusal → List Sent → (room : List ℕ) → Answer
sending_answer fine l room = sending (sending_reply (Ok (length l))) (filled (map message_of l) room)
sending_answer (refused x) l room = sending (sending_reply (Err x)) room

-- What a call sends where it is granted.
unfoldable pub messages_of : (durations : List ℕ) → List Entry → Now → Call → List Sent
messages_of ds es s (note room h tempo) = sent_between ds es s (moved s (note room h tempo))
messages_of ds es s (pass room ms) = sent_between ds es s (moved s (pass room ms))
messages_of ds es s report = []
messages_of ds es s (look_up n) = []

-- What it sends, refused or not.
unfoldable pub if_granted : Check Refusal → List Sent → List Sent
if_granted fine l = l
if_granted (refused x) l = []

unfoldable pub messages_by : (durations : List ℕ) → List Entry → Now → Call → List Sent
messages_by ds es s c = if_granted (verdict (length ds) s c) (messages_of ds es s c)

-- total messages were sent since the opening.
unfoldable pub answer : (file durations : List ℕ) → List Entry → (total : ℕ) → Now → Call → Answer
answer f ds es total s (note room h tempo) =
    sending_answer (verdict (length ds) s (note room h tempo)) (messages_of ds es s (note room h tempo)) room
answer f ds es total s (pass room ms) = sending_answer (verdict (length ds) s (pass room ms)) (messages_of ds es s (pass room ms)) room
answer f ds es total s report =
    reporting (report_reply (Ok (record { clock = s.clock; tempo = s.tempo; last = s.last; total = total })))
answer f ds es total s (look_up n) = looking (reply_of (verdict_of (label_reply f n))) (label_bytes f n)

-- The answers to a list of calls, one after the other.
unfoldable pub answers : (file durations : List ℕ) → List Entry → (total : ℕ) → Now → List Call → List Answer
answers f ds es total s [] = []
answers f ds es total s (c ∷ cs) =
    answer f ds es total s c ∷ answers f ds es (total + length (messages_by ds es s c)) (after (length ds) s c) cs

-- ---- a run of a file, from its opening on these terms

-- The sequences of the sounding parts.
unfoldable pub sounding_in : (file : List ℕ) → (sounds : ℕ → Bool) → List Entry
sounding_in f S = sounding_entries S (entries (decode f).items)

unfoldable pub answers_of : (file : List ℕ) → Terms → List Call → List Answer
answers_of f o cs = answers f (decode f).durations (sounding_in f (sounds o.parts)) 0 (start o) cs

-- "replies with the number of sounding parts"
unfoldable pub run_of : (file : List ℕ) → Terms → List Call → List Answer
run_of f o cs = opening (record { number = 0; place = 0; parts = sounding_below o.parts 16 }) ∷ answers_of f o cs
