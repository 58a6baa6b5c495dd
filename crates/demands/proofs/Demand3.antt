-- Demand 3, "What one part does never changes another's messages", of the history and over session memory: the second is each time a line from demand 2.
-- Assumes nothing.
use mathlib.Core.Path.{◌≡◌, ap, sym, ◌∙◌}
use Prim.Native.Nat.{ℕ, ◌+◌}
use mathlib.Core.Bool.{true, false}
use mathlib.Core.List.{List, map}
use Rattle.score.specs.Piece.{decode}
use Rattle.score.specs.File.{Accepted}
use Rattle.rules.specs.Terms.{Terms}
use Rattle.rules.specs.Page.{entries}
use Rattle.rules.specs.Parts.{sounding_items}
use Rattle.session.specs.Parts.{sounds}
use Rattle.opening.specs.Opening.{opened}
use Rattle.demands.specs.History.{Call, start}
use Rattle.demands.specs.Answers.{message_of, sounding_in, run_of}
use Rattle.demands.specs.Memory.{Openable, answers_in, run_in}
use Rattle.demands.specs.Demands.{messages_in, whole_piece, sent_in, with_parts, every_part, only_parts, merge_all}
use Rattle.demands.proofs.Parts.{run-of-parts}
use Rattle.demands.proofs.Union.{run-of-both}
use Rattle.demands.proofs.Bits.{bits-of-both}
use Rattle.demands.proofs.Silent.{same-run}
use Rattle.demands.proofs.Terms.{sent-with-parts, whole-piece}
use Rattle.demands.proofs.Demand2.{demand-2, demand-2-room}

-- ---- of the history

-- (a) A set of parts sends what the whole piece sends, with the other parts' messages struck out.
pub demand-3-a : (f : List ℕ) (o : Terms) (cs : List Call) → messages_in f o cs ≡ map (only_parts (sounds o.parts)) (whole_piece f o cs)
unfolding messages_in sounding_in whole_piece
demand-3-a f o cs = run-of-parts (sounds o.parts) (decode f).durations (entries (decode f).items) (start o) cs

-- The whole piece is what an opening with all sixteen parts sends.
pub demand-3-whole : (f : List ℕ) → Accepted f → (o : Terms) (cs : List Call) → messages_in f (with_parts every_part o) cs ≡ whole_piece f o cs
unfolding messages_in whole_piece
demand-3-whole f a o cs = rw (whole-piece f a) (sent-with-parts every_part (decode f).durations (entries (decode f).items) o cs)

-- (b) Two sets with no part in common, opened together, send what each sends alone, merged by due date and page place: "part p is worth 2^p", so the bits of both
-- sets are their sum.
pub demand-3-b : (f : List ℕ) (A B : ℕ) → ((p : ℕ) → sounds A p ≡ true → sounds B p ≡ false) → (o : Terms) (cs : List Call)
    → messages_in f (with_parts (A + B) o) cs ≡ merge_all (messages_in f (with_parts A o) cs) (messages_in f (with_parts B o) cs)
unfolding messages_in sounding_in
demand-3-b f A B apart o cs =
    let ds = (decode f).durations in
    rw (sent-with-parts (A + B) ds _ o cs, sent-with-parts A ds _ o cs, sent-with-parts B ds _ o cs, bits-of-both A B apart)
    (run-of-both ds (decode f).items (sounds A) (sounds B) apart (start o) cs)

-- (c) Other items for the silent parts change no answer: two accepted files with the same events, the same messages and the same items of the sounding parts
-- answer every list of calls alike, look-ups included.
pub demand-3-c : (f g : List ℕ) → Accepted f → Accepted g → (o : Terms)
    → (decode f).durations ≡ (decode g).durations
    → (decode f).labels ≡ (decode g).labels
    → sounding_items (sounds o.parts) (decode f).items ≡ sounding_items (sounds o.parts) (decode g).items
    → (cs : List Call) → run_of f o cs ≡ run_of g o cs
unfolding run_of
demand-3-c f g a b o durations labels items cs = rw (same-run f g a b o durations labels items cs)

-- ---- over session memory: what the send room holds after each call

-- (a) of the sounding parts, and of all sixteen.
pub demand-3-a-memory : (f m k : List ℕ) (o : Terms) → Openable f m o → Openable f k (with_parts every_part o) → (cs : List Call)
    → (map sent_in (answers_in f (opened m f o).memory cs) ≡ map (map message_of) (map (only_parts (sounds o.parts)) (whole_piece f o cs)))
    × (map sent_in (answers_in f (opened k f (with_parts every_part o)).memory cs) ≡ map (map message_of) (whole_piece f o cs))
demand-3-a-memory f m k o can all cs = (
  demand-2-room f m o can cs ∙ ap (map (map message_of)) (demand-3-a f o cs),
  demand-2-room f k (with_parts every_part o) all cs ∙ ap (map (map message_of)) (demand-3-whole f can.accepted o cs),
)

pub demand-3-b-memory : (f m : List ℕ) (A B : ℕ) → ((p : ℕ) → sounds A p ≡ true → sounds B p ≡ false) → (o : Terms) → Openable f m (with_parts (A + B) o)
    → (cs : List Call)
    → map sent_in (answers_in f (opened m f (with_parts (A + B) o)).memory cs)
    ≡ map (map message_of) (merge_all (messages_in f (with_parts A o) cs) (messages_in f (with_parts B o) cs))
demand-3-b-memory f m A B apart o can cs = demand-2-room f m (with_parts (A + B) o) can cs ∙ ap (map (map message_of)) (demand-3-b f A B apart o cs)

pub demand-3-c-memory : (f g m k : List ℕ) (o : Terms) → Openable f m o → Openable g k o
    → (decode f).durations ≡ (decode g).durations
    → (decode f).labels ≡ (decode g).labels
    → sounding_items (sounds o.parts) (decode f).items ≡ sounding_items (sounds o.parts) (decode g).items
    → (cs : List Call) → run_in f m o cs ≡ run_in g k o cs
demand-3-c-memory f g m k o a b durations labels items cs =
    demand-2 f m o a cs ∙ demand-3-c f g a.accepted b.accepted o durations labels items cs ∙ sym (demand-2 g k o b cs)
