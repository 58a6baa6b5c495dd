-- The slot machine sends at each call what the history says, and its slots are those that the history calls for: a heard note settles the rows under D into the
-- rows under D and the new event, and firing at a clock reading takes them to that reading.
-- Assumes nothing.
use mathlib.Core.Path.{◌≡◌, refl, ap, ap₂}
use Prim.Native.Nat.{ℕ, ◌+◌, ◌*◌, ◌≤◌}
use mathlib.Core.Bool.{Bool, true, false}
use mathlib.Core.List.{List, [], ◌∷◌, ◌++◌}
use native.Mathlib.Omega.{arith}
use lib.Dec.{leb}
use lib.ListN.{length}
use borrow.Author.Tests.{leb-true, le-leb}
use Rattle.base.specs.Tests.{pick}
use Rattle.rules.specs.Terms.{Terms}
use Rattle.rules.specs.Score.{Seq, end, action, group}
use Rattle.rules.specs.Heard.{taken}
use Rattle.rules.specs.Rules.{Reading, reading_of, Outcome, played, dropped, undecided, Line, line, waiting, fate_of, outcome_of, enter, run, top_holder, perform}
use Rattle.rules.specs.Page.{Entry, Cue, cast, cues}
use Rattle.demands.specs.History.{note, pass, Now, start, heard_events, moved}
use Rattle.demands.specs.Messages.{When, never, since, when_heard, due_date, reached, Sent, first_time, sends, firsts, order, sent_between}
use Rattle.demands.proofs.Outcomes.{heard-one-more, Becomes, holds, lost, waits, falls, begins, AllBecome, none, one, note-becomes, UpToLast, NextEvent, below-note}
use Rattle.demands.proofs.Slots.{Slot, due, sent, SlotRow, settle, settle_all, fire, fire_all, fired, collect, slot_of, slot_on, rows_of, slots_of, AllIdle, no_row, one_row}

-- ---- a heard note: s before it, n after it, at the same clock reading

-- A slot that this clock reading was asked for already stays as it is, and sends nothing.
still-slot : (x c : ℕ) (u : Outcome) (t : Bool) → leb x c ≡ t → fire c (settle c (pick t sent (due x)) u) ≡ pick t sent (due x)
unfolding fire settle pick
still-slot x c u true e = refl
still-slot x c u false e = rw e

still-fired : (r : SlotRow) (x c : ℕ) (u : Outcome) (l : List Sent) (t : Bool) → leb x c ≡ t
    → fired c r (settle c (pick t sent (due x)) u) l ≡ first_time t t (record { due = x; place = r.place; part = r.part; message = r.message }) l
unfolding fired settle pick first_time
still-fired r x c u l true e = refl
still-fired r x c u l false e = rw e

first_of : (t : Bool) (x : Sent) (l : List Sent) → pick t (x ∷ l) l ≡ first_time false t x l
unfolding pick first_time
first_of true x l = refl
first_of false x l = refl

pub note-slot : (s n : Now) {o u : Outcome} → n.clock ≡ s.clock → Becomes s.hearings n.hearings s.clock o u
    → fire s.clock (settle s.clock (slot_on s o) u) ≡ slot_on n u
unfolding fire settle slot_on slot_of
note-slot s n e (holds {d = d} k p q) = rw (p, q, e, slot_of) (still-slot (k + 1000 * d) s.clock _ _ refl)
note-slot s n e lost = refl
note-slot s n e waits = refl
note-slot s n e falls = refl
note-slot s n e (begins p q) = rw (q, e, slot_of)

pub note-fired : (s n : Now) (c : Cue) (r : SlotRow) {o u : Outcome} (l : List Sent) → n.clock ≡ s.clock → r.place ≡ c.place → r.part ≡ c.part
    → r.message ≡ c.message → Becomes s.hearings n.hearings s.clock o u → fired s.clock r (settle s.clock (slot_on s o) u) l ≡ sends s n c u l
unfolding fired settle slot_on slot_of sends reached due_date
note-fired s n c r l e a b m (holds {d = d} k p q) = rw (p, q, e, slot_of, reached, due_date, ← a, ← b, ← m) (still-fired r (k + 1000 * d) s.clock _ l _ refl)
note-fired s n c r l e a b m lost = refl
note-fired s n c r l e a b m waits = refl
note-fired s n c r l e a b m falls = refl
note-fired s n c r l e a b m (begins p q) = rw (p, q, e, reached, due_date, ← a, ← b, ← m) (first_of _ _ l)

note-rows : (s n : Now) {l k : List Cue} → n.clock ≡ s.clock → AllBecome s.hearings n.hearings s.clock l k
    → fire_all s.clock (settle_all s.clock (rows_of s l) k) ≡ rows_of n k
unfolding fire_all settle_all rows_of
note-rows s n e none = refl
note-rows s n e (one {x = x} {p = p} {m = m} t r) =
    ap₂ {C = List SlotRow} (λ (z : Slot) (l : List SlotRow). record { place = x; part = p; message = m; slot = z } ∷ l) (note-slot s n e t) (note-rows s n e r)

note-collect : (s n : Now) {l k : List Cue} → n.clock ≡ s.clock → AllBecome s.hearings n.hearings s.clock l k
    → collect s.clock (settle_all s.clock (rows_of s l) k) ≡ firsts s n k
unfolding collect settle_all rows_of firsts
note-collect s n e none = refl
note-collect s n e (one {x = x} {p = p} {m = m} {o = o} {u = u} t r) =
    rw (note-collect s n e r)
    (note-fired s n (record { place = x; part = p; message = m; outcome = u }) (record { place = x; part = p; message = m; slot = settle s.clock (slot_on s o) u }) _ e refl refl refl t)

-- ---- passing time: s before it, n after it, with the same hearings

pass-shot : (x c b : ℕ) (t : Bool) → leb x c ≡ t → c ≤ b → fire b (pick t sent (due x)) ≡ pick (leb x b) sent (due x)
unfolding fire pick
pass-shot x c b true e l = rw (le-leb x b (omega (arith, leb-true x c e)))
pass-shot x c b false e l = refl

pass-when : (w : When) (d c b : ℕ) → c ≤ b → fire b (slot_of w d c) ≡ slot_of w d b
unfolding slot_of fire
pass-when never d c b l = refl
pass-when (since k) d c b l = pass-shot (k + 1000 * d) c b _ refl l

pub pass-slot : (s n : Now) (o : Outcome) → n.hearings ≡ s.hearings → s.clock ≤ n.clock → fire n.clock (slot_on s o) ≡ slot_on n o
unfolding slot_on fire
pass-slot s n (played i d) e l = rw e (pass-when (when_heard s.hearings i) d s.clock n.clock l)
pass-slot s n dropped e l = refl
pass-slot s n undecided e l = refl

fired-shot : (r : SlotRow) (x c b : ℕ) (l : List Sent) (t : Bool) → leb x c ≡ t
    → fired b r (pick t sent (due x)) l ≡ first_time t (leb x b) (record { due = x; place = r.place; part = r.part; message = r.message }) l
unfolding fired pick first_time
fired-shot r x c b l true e = refl
fired-shot r x c b l false e = first_of (leb x b) (record { due = x; place = r.place; part = r.part; message = r.message }) l

fired-when : (r : SlotRow) (w : When) (d c b : ℕ) (l : List Sent)
    → fired b r (slot_of w d c) l ≡ first_time (reached w d c) (reached w d b) (record { due = due_date w d; place = r.place; part = r.part; message = r.message }) l
unfolding slot_of reached due_date fired first_time
fired-when r never d c b l = refl
fired-when r (since k) d c b l = fired-shot r (k + 1000 * d) c b l _ refl

pub pass-fired : (s n : Now) (c : Cue) (r : SlotRow) (o : Outcome) (l : List Sent) → n.hearings ≡ s.hearings → r.place ≡ c.place → r.part ≡ c.part
    → r.message ≡ c.message → fired n.clock r (slot_on s o) l ≡ sends s n c o l
unfolding slot_on sends fired
pass-fired s n c r (played i d) l e a b m = rw (e, ← a, ← b, ← m) (fired-when r (when_heard s.hearings i) d s.clock n.clock l)
pass-fired s n c r dropped l e a b m = refl
pass-fired s n c r undecided l e a b m = refl

pass-rows : (s n : Now) (l : List Cue) → n.hearings ≡ s.hearings → s.clock ≤ n.clock → fire_all n.clock (rows_of s l) ≡ rows_of n l
unfolding fire_all rows_of
pass-rows s n [] e h = refl
pass-rows s n (c ∷ l) e h =
    ap₂ {C = List SlotRow} (λ (z : Slot) (k : List SlotRow). record { place = c.place; part = c.part; message = c.message; slot = z } ∷ k) (pass-slot s n c.outcome e h) (pass-rows s n l e h)

pass-collect : (s n : Now) (l : List Cue) → n.hearings ≡ s.hearings → collect n.clock (rows_of s l) ≡ firsts s n l
unfolding collect rows_of firsts
pass-collect s n [] e = refl
pass-collect s n (c ∷ l) e =
    rw (pass-collect s n l e)
    (pass-fired s n c (record { place = c.place; part = c.part; message = c.message; slot = slot_on s c.outcome }) c.outcome _ e refl refl refl)

-- ---- one granted call

module _ (ds : List ℕ) (es : List Entry) where
  -- (i) A heard note: the rows under D and h settle from the rows under D, and are then fired at the clock reading of the note.
  module _ (s : Now) (room : List ℕ) (h tempo : ℕ) (orderly : UpToLast s) (fits : NextEvent (length ds) s.last h) where
    -- The page under D and h.
    abbrev new_cues : List Cue
    new_cues = cues (reading_of s.terms ds (heard_events s.hearings ++ (h ∷ []))) es

    become : AllBecome s.hearings (moved s (note room h tempo)).hearings s.clock (cues (reading_of s.terms ds (heard_events s.hearings)) es) new_cues
    unfolding moved
    become = note-becomes s.terms ds s.hearings (record { event = h; clock = s.clock }) fits.few (below-note (length ds) s h orderly fits) es

    pub note-settles : fire_all s.clock (settle_all s.clock (slots_of ds es s) new_cues) ≡ slots_of ds es (moved s (note room h tempo))
    unfolding slots_of moved
    note-settles = rw (heard-one-more s.hearings (record { event = h; clock = s.clock })) (note-rows s (moved s (note room h tempo)) refl become)

    pub note-sends : order (collect s.clock (settle_all s.clock (slots_of ds es s) new_cues)) ≡ sent_between ds es s (moved s (note room h tempo))
    unfolding slots_of moved sent_between
    note-sends = rw (heard-one-more s.hearings (record { event = h; clock = s.clock })) (ap order (note-collect s (moved s (note room h tempo)) refl become))

  -- (ii) Passing time: the rows are fired at the clock reading after it.
  pub pass-settles : (s : Now) (room : List ℕ) (ms : ℕ) → fire_all (s.clock + ms * s.tempo) (slots_of ds es s) ≡ slots_of ds es (moved s (pass room ms))
  unfolding slots_of moved
  pass-settles s room ms = pass-rows s (moved s (pass room ms)) _ refl (omega arith)

  pub pass-sends : (s : Now) (room : List ℕ) (ms : ℕ) → order (collect (s.clock + ms * s.tempo) (slots_of ds es s)) ≡ sent_between ds es s (moved s (pass room ms))
  unfolding slots_of moved sent_between
  pass-sends s room ms = ap order (pass-collect s (moved s (pass room ms)) _ refl)

-- ---- at the opening every slot is open

idle-append : {l k : List SlotRow} → AllIdle l → AllIdle k → AllIdle (l ++ k)
idle-append no_row q = q
idle-append (one_row {r = r} e p) q = one_row {r = r} e (idle-append p q)

rows_append : (s : Now) (l k : List Cue) → rows_of s (l ++ k) ≡ rows_of s l ++ rows_of s k
unfolding rows_of
rows_append s [] k = refl
rows_append s (c ∷ l) k = ap (λ (r : List SlotRow). record { place = c.place; part = c.part; message = c.message; slot = slot_on s c.outcome } ∷ r) (rows_append s l k)

cast-append : (p : ℕ) (l k : List Line) → cast p (l ++ k) ≡ cast p l ++ cast p k
unfolding cast
cast-append p [] k = refl
cast-append p (line a m o ∷ l) k = ap (λ (r : List Cue). record { place = a; part = p; message = m; outcome = o } ∷ r) (cast-append p l k)

idle-run : (R : Reading) (s : Now) (p d : ℕ) (x : Seq) → AllIdle (rows_of s (cast p (run R waiting d x)))
unfolding run cast rows_of fate_of outcome_of enter slot_on
idle-run R s p d end = no_row
idle-run R s p d (action e m a r) = one_row refl (idle-run R s p (d + e) r)
idle-run R s p d (group e y w b r) =
    let l = cast p (run R waiting 0 b) in
    let k = cast p (run R waiting (d + e) r) in
    rw (cast-append p (run R waiting 0 b) (run R waiting (d + e) r), rows_append s l k)
    (idle-append (idle-run R s p 0 b) (idle-run R s p (d + e) r))

idle-cues : (o : Terms) (ds : List ℕ) (s : Now) (es : List Entry) → AllIdle (rows_of s (cues (reading_of o ds []) es))
unfolding cues rows_of perform reading_of taken top_holder
idle-cues o ds s [] = no_row
idle-cues o ds s (e ∷ es) = rw rows_append (idle-append (idle-run (reading_of o ds []) s e.part 0 e.body) (idle-cues o ds s es))

pub start-idle : (ds : List ℕ) (es : List Entry) (o : Terms) → AllIdle (slots_of ds es (start o))
unfolding slots_of start heard_events
start-idle ds es o = idle-cues o ds (start o) es
