-- Calls on a session, which of them are refused, and what the granted ones come to: clock, tempo, last event, and the heard set with the clock at each hearing.
use Rattle.std.specs.Prelude.{ℕ, ◌+◌, ◌*◌, List, [], ◌∷◌, ◌++◌, leb, ltb, length}
use Rattle.base.specs.Tests.{between}
use Rattle.base.specs.Checks.{Check, fine, refused, need, first_fault}
use Rattle.rules.specs.Terms.{Terms}
use Rattle.session.specs.declared.Refusal.{Refusal}
use Rattle.session.specs.declared.Refusal.TheVariants.{RoomShort, NoEvent, NotAfter, BadTempo, BadMillis, ClockFull}
use Rattle.session.specs.Layout.{room_size, most_tempo, most_millis, clock_end}

-- A call after the opening, with what it is lent beside the session memory: a send room, or the session's own file for the look-up.
pub data Call : Type 0 where
  note : (room : List ℕ) (event tempo : ℕ) → Call
  pass : (room : List ℕ) (ms : ℕ) → Call
  report : Call
  look_up : (number : ℕ) → Call

pub record Hearing : Type 0 where
  pub event : ℕ
  pub clock : ℕ

-- What the opening and the calls so far come to, whatever the items are.
pub record Now : Type 0 where
  pub terms : Terms
  pub clock : ℕ
  pub tempo : ℕ
  pub last : ℕ
  pub hearings : List Hearing

-- "The clock starts at 0"; "last event heard (0 before the first)".
unfoldable pub start : Terms → Now
start o = record { terms = o; clock = 0; tempo = o.tempo; last = 0; hearings = [] }

-- "D is the set of events heard."
unfoldable pub heard_events : List Hearing → List ℕ
heard_events [] = []
heard_events (h ∷ hs) = h.event ∷ heard_events hs

-- Which call is refused: "Heard note: 1, 2, 10, 11, 12, 9. Passing time: 1, 2, 10, 13, 14." Memory of 8,192 words that was opened is never refused by 1 or 10.
unfoldable pub verdict : (events : ℕ) → Now → Call → Check Refusal
verdict events s (note room h tempo) =
    first_fault (
    need (leb room_size (length room)) RoomShort
    ∷ need (between 1 events h) NoEvent
    ∷ need (ltb s.last h) NotAfter
    ∷ need (between 1 most_tempo tempo) BadTempo
    ∷ []
    )
verdict events s (pass room ms) =
    first_fault (
    need (leb room_size (length room)) RoomShort
    ∷ need (between 1 most_millis ms) BadMillis
    ∷ need (leb (s.clock + ms * s.tempo) clock_end) ClockFull
    ∷ []
    )
verdict events s report = fine
verdict events s (look_up n) = fine

-- A granted call. "A heard note sets the new tempo"; "m milliseconds move the clock by m times T".
unfoldable pub moved : Now → Call → Now
moved s (note room h tempo) =
    record { terms = s.terms; clock = s.clock; tempo = tempo; last = h; hearings = s.hearings ++ (record { event = h; clock = s.clock } ∷ []) }
moved s (pass room ms) = record { terms = s.terms; clock = s.clock + ms * s.tempo; tempo = s.tempo; last = s.last; hearings = s.hearings }
moved s report = s
moved s (look_up n) = s

-- "A refusal sends nothing and changes no lent word."
unfoldable pub kept : Check Refusal → Now → Now → Now
kept fine old new = new
kept (refused x) old new = old

unfoldable pub after : (events : ℕ) → Now → Call → Now
after events s c = kept (verdict events s c) s (moved s c)
