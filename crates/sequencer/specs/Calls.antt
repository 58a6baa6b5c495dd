-- Heard note, passing time and report, on all words. "A refusal sends nothing and changes no lent word."
use Rattle.std.specs.Prelude.{ℕ, zero, suc, ◌+◌, ◌-◌, List, [], ◌∷◌, leb, ltb, length, set, Result, Ok, Err}
use Rattle.base.specs.Tests.{between}
use Rattle.base.specs.Checks.{Check, fine, refused, need, first_fault}
use Rattle.units.specs.Units.{moved_by}
use Rattle.evaluators.specs.Performed.{performed}
use Rattle.session.specs.declared.Refusal.{Refusal}
use Rattle.session.specs.declared.Refusal.TheVariants.{MemoryShort, RoomShort, BadTempo, NoSession, NoEvent, NotAfter, BadMillis, ClockFull}
use Rattle.session.specs.Layout.{memory_size, room_size, most_tempo, most_millis, clock_end, event_count_at, item_count_at, clock_at, tempo_at, last_at, total_at, taken_at, word_at, places_of}
use Rattle.session.specs.Session.{is_session}
use Rattle.sending.specs.Room.{filled}
use Rattle.sending.specs.Sending.{settled, sent_at, fired_at}
use Rattle.sequencer.specs.declared.Figures.{Figures}

-- ---- the order of checks

-- "Heard note: 1, 2, 10, 11, 12, 9."
unfoldable pub heard_check : (memory room : List ℕ) → (event tempo : ℕ) → Check Refusal
heard_check m room h tempo =
    first_fault (
    need (leb memory_size (length m)) MemoryShort
    ∷ need (leb room_size (length room)) RoomShort
    ∷ need (is_session m) NoSession
    ∷ need (between 1 (word_at m event_count_at) h) NoEvent
    ∷ need (ltb (word_at m last_at) h) NotAfter
    ∷ need (between 1 most_tempo tempo) BadTempo
    ∷ []
    )

-- The clock after so many milliseconds: the tempo step of `units`.
unfoldable pub clock_after : List ℕ → ℕ → ℕ
clock_after m ms = word_at m clock_at + (moved_by (record { 0 = ms }) (word_at m tempo_at)).0

-- "Passing time: 1, 2, 10, 13, 14."
unfoldable pub pass_check : (memory room : List ℕ) → (ms : ℕ) → Check Refusal
pass_check m room ms =
    first_fault (
    need (leb memory_size (length m)) MemoryShort
    ∷ need (leb room_size (length room)) RoomShort
    ∷ need (is_session m) NoSession
    ∷ need (between 1 most_millis ms) BadMillis
    ∷ need (leb (clock_after m ms) clock_end) ClockFull
    ∷ []
    )

-- "Report: 1, 10."
unfoldable pub report_check : List ℕ → Check Refusal
report_check m = first_fault (need (leb memory_size (length m)) MemoryShort ∷ need (is_session m) NoSession ∷ [])

-- ---- what a granted call makes of the words

-- The count events from k on are settled by event h: each was missed before it, but h itself, which is heard.
unfoldable pub took_note : (h count k : ℕ) → List ℕ → List ℕ
took_note h zero k m = m
took_note h (suc n) k m = took_note h n (k + 1) (set m (taken_at + k) h)

-- A heard note settles the events from the last one heard on, the rules say what that decides, and what they newly play waits from this clock reading on.
unfoldable pub noted : ℕ → List ℕ → List ℕ
noted h m =
    let m₁ = took_note h (h - word_at m last_at) (word_at m last_at + 1) m in
    settled (word_at m clock_at) (word_at m item_count_at) 0 (performed (places_of m₁) m₁)

-- The header after a call: "A heard note sets the new tempo"; total messages were sent since the opening.
unfoldable pub headed : (clock tempo last total : ℕ) → List ℕ → List ℕ
headed clock tempo last total m = set (set (set (set m clock_at clock) tempo_at tempo) last_at last) total_at total

-- What a heard note or passing time comes to: its reply, and the session memory and the send room after it.
pub record SendingResult : Type 0 where
  pub reply : Result ℕ Refusal
  pub memory : List ℕ
  pub room : List ℕ

-- All that is due at this clock reading is sent, and the header says what holds after the call.
unfoldable pub sent_now : (clock tempo last : ℕ) → (memory room : List ℕ) → SendingResult
sent_now clock tempo last m room =
    let l = sent_at clock m in
    record { reply = Ok (length l); memory = headed clock tempo last (word_at m total_at + length l) (fired_at clock m); room = filled l room }

-- By one look at its check: the granted call, or memory and room as they came.
unfoldable pub if_fine : Check Refusal → SendingResult → (memory room : List ℕ) → SendingResult
if_fine fine granted m room = granted
if_fine (refused x) granted m room = record { reply = Err x; memory = m; room = room }

-- ---- the calls

unfoldable pub heard_note : (memory room : List ℕ) → (event tempo : ℕ) → SendingResult
heard_note m room h tempo = if_fine (heard_check m room h tempo) (sent_now (word_at m clock_at) tempo h (noted h m) room) m room

unfoldable pub passing_time : (memory room : List ℕ) → (ms : ℕ) → SendingResult
passing_time m room ms = if_fine (pass_check m room ms) (sent_now (clock_after m ms) (word_at m tempo_at) (word_at m last_at) m room) m room

unfoldable pub if_known : Check Refusal → Figures → Result Figures Refusal
if_known fine s = Ok s
if_known (refused x) s = Err x

unfoldable pub reported : List ℕ → Result Figures Refusal
reported m = if_known (report_check m) (record { clock = word_at m clock_at; tempo = word_at m tempo_at; last = word_at m last_at; total = word_at m total_at })
