-- A machine with a slot for each written action: a heard note settles the open slots by the outcomes, and the clock fires those whose due date it has reached.
-- And the slots that a history calls for.
use mathlib.Core.Path.{◌≡◌}
use Prim.Native.Nat.{ℕ, ◌+◌, ◌*◌}
use mathlib.Core.List.{List, [], ◌∷◌}
use lib.Dec.{leb}
use Rattle.base.specs.Tests.{pick}
use Rattle.rules.specs.Rules.{reading_of, Outcome, played, dropped, undecided}
use Rattle.rules.specs.Page.{Entry, Cue, cues}
use Rattle.demands.specs.History.{Now, heard_events}
use Rattle.demands.specs.Messages.{When, never, since, when_heard, Sent}

-- Not decided; dropped; waiting with its due date; sent.
pub data Slot : Type 0 where
  idle : Slot
  struck : Slot
  due : ℕ → Slot
  sent : Slot

pub record SlotRow : Type 0 where
  pub place : ℕ
  pub part : ℕ
  pub message : ℕ
  pub slot : Slot

-- ---- a heard note at a clock reading

unfoldable pub settle : (clock : ℕ) → Slot → Outcome → Slot
settle c idle (played i d) = due (c + 1000 * d)
settle c idle dropped = struck
settle c idle undecided = idle
settle c struck o = struck
settle c (due x) o = due x
settle c sent o = sent

unfoldable pub settle_all : (clock : ℕ) → List SlotRow → List Cue → List SlotRow
settle_all c [] l = []
settle_all c (r ∷ rs) [] = []
settle_all c (r ∷ rs) (x ∷ l) = record { place = r.place; part = r.part; message = r.message; slot = settle c r.slot x.outcome } ∷ settle_all c rs l

-- ---- sending at a clock reading

unfoldable pub fire : (clock : ℕ) → Slot → Slot
fire c idle = idle
fire c struck = struck
fire c (due x) = pick (leb x c) sent (due x)
fire c sent = sent

unfoldable pub fire_all : (clock : ℕ) → List SlotRow → List SlotRow
fire_all c [] = []
fire_all c (r ∷ rs) = record { place = r.place; part = r.part; message = r.message; slot = fire c r.slot } ∷ fire_all c rs

-- What is fired, in page order.
unfoldable pub fired : (clock : ℕ) → SlotRow → Slot → List Sent → List Sent
fired c r idle l = l
fired c r struck l = l
fired c r (due x) l = pick (leb x c) (record { due = x; place = r.place; part = r.part; message = r.message } ∷ l) l
fired c r sent l = l

unfoldable pub collect : (clock : ℕ) → List SlotRow → List Sent
collect c [] = []
collect c (r ∷ rs) = fired c r r.slot (collect c rs)

-- ---- what a history calls for

unfoldable pub slot_of : When → (delay clock : ℕ) → Slot
slot_of never d c = idle
slot_of (since k) d c = pick (leb (k + 1000 * d) c) sent (due (k + 1000 * d))

unfoldable pub slot_on : Now → Outcome → Slot
slot_on s (played i d) = slot_of (when_heard s.hearings i) d s.clock
slot_on s dropped = struck
slot_on s undecided = idle

unfoldable pub rows_of : Now → List Cue → List SlotRow
rows_of s [] = []
rows_of s (x ∷ l) = record { place = x.place; part = x.part; message = x.message; slot = slot_on s x.outcome } ∷ rows_of s l

unfoldable pub slots_of : (durations : List ℕ) → List Entry → Now → List SlotRow
slots_of ds es s = rows_of s (cues (reading_of s.terms ds (heard_events s.hearings)) es)

-- Every slot is open.
pub data AllIdle : List SlotRow → Type 0 where
  no_row : AllIdle []
  one_row : {r : SlotRow} {rs : List SlotRow} → r.slot ≡ idle → AllIdle rs → AllIdle (r ∷ rs)
