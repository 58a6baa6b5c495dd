-- Demand 2 of the history: which messages a run of calls sends, each once, when and in which order, and the counts. Of any file, any terms and any list of calls after
-- the opening; each a line from its own file. Assumes nothing.
use mathlib.Core.Path.{◌≡◌, ◌∙◌}
use Prim.Native.Nat.{ℕ, ◌+◌, ◌*◌, ◌≤◌, ◌<◌}
use mathlib.Core.Bool.{Bool}
use mathlib.Core.List.{List, [], ◌∷◌, ◌++◌, map, Memᴰ}
use native.Mathlib.Nat.{zero-add}
use native.Mathlib.Omega.{arith}
use lib.ListN.{length}
use Rattle.std.specs.Prelude.{Ok}
use Rattle.score.specs.Piece.{decode}
use Rattle.score.specs.File.{Accepted}
use Rattle.rules.specs.Terms.{Terms}
use Rattle.session.specs.Layout.{room_size}
use Rattle.session.specs.Parts.{sounds}
use Rattle.sequencer.specs.Replies.{report_reply}
use Rattle.demands.specs.History.{Call, note, pass, report, start}
use Rattle.demands.specs.Messages.{Sent}
use Rattle.demands.specs.Answers.{reporting, answer, answers, sounding_in, answers_of}
use Rattle.demands.specs.Demands.{messages_in, end_of, next_messages, come_due, joined, tally, at_place, count_in, sum_of, InOrder}
use Rattle.demands.proofs.Once.{sent-once, place-once}
use Rattle.demands.proofs.Windows.{pass-window, note-due}
use Rattle.demands.proofs.Reached.{sent-in-order}
use Rattle.demands.proofs.Room.{few-sent}
use Rattle.demands.proofs.Count.{sent-on, counts-are, answers-on}

-- ---- the messages, each once

-- A run goes on with the messages of the next call.
pub messages-on : (f : List ℕ) (o : Terms) (cs : List Call) (c : Call)
    → messages_in f o (cs ++ (c ∷ [])) ≡ messages_in f o cs ++ (next_messages f o cs c ∷ [])
unfolding messages_in next_messages end_of
messages-on f o cs c = sent-on (decode f).durations (sounding_in f (sounds o.parts)) (start o) cs c

-- The messages of all calls are those that have come due by the end, each as often: none is lost, none is sent twice, and there are no others.
pub demand-2-once : (f : List ℕ) (o : Terms) (cs : List Call) (test : Sent → Bool)
    → tally test (joined (messages_in f o cs)) ≡ tally test (come_due f o cs)
unfolding messages_in end_of come_due
demand-2-once f o cs test = sent-once (decode f).durations (sounding_in f (sounds o.parts)) test o cs

-- The message of a written action is sent once at most, over all calls.
pub demand-2-no-twice : (f : List ℕ) (o : Terms) (cs : List Call) (place : ℕ) → tally (at_place place) (joined (messages_in f o cs)) ≤ 1
unfolding messages_in sounding_in
demand-2-no-twice f o cs place = place-once (sounds o.parts) (decode f).durations (decode f).items o cs place

-- "by due date and then page place": each message of a call comes before all that follow it.
pub demand-2-order : (f : List ℕ) (o : Terms) (cs : List Call) (c : Call) → InOrder (next_messages f o cs c)
unfolding next_messages sounding_in
demand-2-order f o cs c = sent-in-order (sounds o.parts) (decode f).durations (decode f).items (end_of f o cs) c

-- "send room under 2,048 words": no call of an accepted file sends more than 1,024 messages, so a room that is not refused holds them.
pub demand-2-fits : (f : List ℕ) → Accepted f → (o : Terms) (cs : List Call) (c : Call)
    → 2 * length (next_messages f o cs c) ≤ room_size
unfolding next_messages
demand-2-fits f a o cs c = omega (arith, few-sent f a (sounds o.parts) (decode f).durations (end_of f o cs) c)

-- "at the first call [..] whose clock has reached the due date": passing time sends what came due while it passed,
pub demand-2-passing : (f : List ℕ) (o : Terms) (cs : List Call) (room : List ℕ) (ms : ℕ) (x : Sent)
    → Memᴰ x (next_messages f o cs (pass room ms))
    → ((end_of f o cs).clock < x.due) × (x.due ≤ (end_of f o cs).clock + ms * (end_of f o cs).tempo)
unfolding next_messages
demand-2-passing f o cs room ms x m = pass-window (decode f).durations (sounding_in f (sounds o.parts)) (end_of f o cs) room ms x m

-- and "A heard note [..] sends what is due at once."
pub demand-2-noted : (f : List ℕ) (o : Terms) (cs : List Call) (room : List ℕ) (h new : ℕ) (x : Sent)
    → Memᴰ x (next_messages f o cs (note room h new))
    → x.due ≡ (end_of f o cs).clock
unfolding next_messages
demand-2-noted f o cs room h new x m = note-due (decode f).durations (sounding_in f (sounds o.parts)) (end_of f o cs) room h new x m

-- ---- the counts

-- "each c is the number of messages that the rules give for that call"
pub demand-2-count : (f : List ℕ) (o : Terms) (cs : List Call) → map count_in (answers_of f o cs) ≡ map length (messages_in f o cs)
unfolding answers_of messages_in sounding_in
demand-2-count f o cs = counts-are f (decode f).durations _ 0 (start o) cs

-- "and the report's total is the sum of them since the opening"
pub demand-2-total : (f : List ℕ) (o : Terms) (cs : List Call)
    → answers_of f o (cs ++ (report ∷ []))
    ≡ answers_of f o cs ++ (reporting (report_reply (Ok (record {
      clock = (end_of f o cs).clock;
      tempo = (end_of f o cs).tempo;
      last = (end_of f o cs).last;
      total = sum_of (map count_in (answers_of f o cs));
    }))) ∷ [])
unfolding answers_of end_of answers answer
demand-2-total f o cs = answers-on f (decode f).durations (sounding_in f (sounds o.parts)) 0 (start o) cs (report ∷ []) ∙ rw zero-add
