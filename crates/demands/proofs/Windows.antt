-- When a message is sent: passing time sends what came due in it, and a heard note what is due at once. By what "reached now, and not before" says.
-- Assumes nothing.
use mathlib.Core.Path.{◌≡◌, refl, ap, ◌∙◌}
use Prim.Native.Nat.{ℕ, ◌+◌, ◌*◌, ◌≤◌, ◌<◌}
use mathlib.Core.Bool.{Bool, true, false}
use mathlib.Core.List.{List, [], ◌∷◌, ◌++◌, Memᴰ}
use native.Mathlib.Omega.{arith}
use lib.Dec.{eqb}
use borrow.Author.Tests.{leb-true, leb-false}
use Rattle.base.specs.Tests.{pick}
use Rattle.rules.specs.Rules.{Outcome, played, dropped, undecided}
use Rattle.rules.specs.Page.{Entry, Cue}
use Rattle.session.specs.declared.Refusal.{Refusal}
use Rattle.base.specs.Checks.{Check, fine, refused}
use Rattle.demands.specs.History.{note, pass, Hearing, Now, moved}
use Rattle.demands.specs.Messages.{When, never, since, when_heard, due_date, reached, Sent, first_time, sends, firsts, sent_between}
use Rattle.demands.specs.Answers.{messages_of, if_granted, messages_by}
use Rattle.demands.proofs.Ordered.{in_order}
use Rattle.demands.proofs.Outcomes.{since-stays}

-- The event and the delay that a message was sent by.
record By (s n : Now) (x : Sent) : Type 0 where
  event : ℕ
  delay : ℕ
  due : x.due ≡ due_date (when_heard n.hearings event) delay
  early : reached (when_heard s.hearings event) delay s.clock ≡ false
  now : reached (when_heard n.hearings event) delay n.clock ≡ true

first_by : (s n : Now) {x : Sent} (y : Sent) (i d : ℕ) (b c : Bool) (l : List Sent) → y.due ≡ due_date (when_heard n.hearings i) d
    → reached (when_heard s.hearings i) d s.clock ≡ b → reached (when_heard n.hearings i) d n.clock ≡ c → (Memᴰ x l → By s n x)
    → Memᴰ x (first_time b c y l) → By s n x
unfolding first_time
first_by s n y i d true c l e p q f m = f m
first_by s n y i d false false l e p q f m = f m
first_by s n y i d false true l e p q f (Memᴰ.head z) = record { event = i; delay = d; due = ap (λ (w : Sent). w.due) z ∙ e; early = p; now = q }
first_by s n y i d false true l e p q f (Memᴰ.tail m) = f m

sends-by : (s n : Now) {x : Sent} (c : Cue) (o : Outcome) (l : List Sent) → (Memᴰ x l → By s n x) → Memᴰ x (sends s n c o l) → By s n x
unfolding sends
sends-by s n c (played i d) l f m = first_by s n (record { due = due_date (when_heard n.hearings i) d; place = c.place; part = c.part; message = c.message }) i d _ _ l refl refl refl f m
sends-by s n c dropped l f m = f m
sends-by s n c undecided l f m = f m

firsts-by : (s n : Now) {x : Sent} (l : List Cue) → Memᴰ x (firsts s n l) → By s n x
unfolding firsts
firsts-by s n [] m = elim m [ ]
firsts-by s n (c ∷ l) m = sends-by s n c c.outcome (firsts s n l) (firsts-by s n l) m

between-by : (ds : List ℕ) (es : List Entry) (s n : Now) {x : Sent} → Memᴰ x (sent_between ds es s n) → By s n x
unfolding sent_between
between-by ds es s n m = firsts-by s n _ (in_order _ m)

-- ---- passing time

passed-window : (w : When) (d c e : ℕ) → reached w d c ≡ false → reached w d e ≡ true → (c < due_date w d) × (due_date w d ≤ e)
unfolding reached due_date
passed-window never d c e p q = let z : ◌≡◌ {A = ℕ} 0 1 = cc in absurd (omega arith)
passed-window (since k) d c e p q = (leb-false (k + 1000 * d) c p, leb-true (k + 1000 * d) e q)

pass-by : (s : Now) (room : List ℕ) (ms : ℕ) {x : Sent} → By s (moved s (pass room ms)) x → (s.clock < x.due) × (x.due ≤ s.clock + ms * s.tempo)
unfolding moved
pass-by s room ms b = rw b.due (passed-window (when_heard s.hearings b.event) b.delay _ _ b.early b.now)

-- ---- a heard note

one_more : (hs : List Hearing) (x : Hearing) (i : ℕ) → when_heard hs i ≡ never → when_heard (hs ++ (x ∷ [])) i ≡ pick (eqb i x.event) (since x.clock) never
unfolding when_heard pick
one_more [] x i e = refl
one_more (h ∷ hs) x i e = go (eqb i h.event) refl (one_more hs x i)
  where
    go : (t : Bool) → eqb i h.event ≡ t → (when_heard hs i ≡ never → when_heard (hs ++ (x ∷ [])) i ≡ pick (eqb i x.event) (since x.clock) never)
        → when_heard (h ∷ (hs ++ (x ∷ []))) i ≡ pick (eqb i x.event) (since x.clock) never
    go true q ih = let r : since h.clock ≡ never = rw q at e in let z : ◌≡◌ {A = ℕ} 0 1 = cc in absurd (omega arith)
    go false q ih = rw q (ih (rw q at e))

noted-window : (d c : ℕ) (t : Bool) → reached (pick t (since c) never) d c ≡ true → due_date (pick t (since c) never) d ≡ c
unfolding reached due_date pick
noted-window d c true q = omega (arith, leb-true (c + 1000 * d) c q)
noted-window d c false q = let z : ◌≡◌ {A = ℕ} 0 1 = cc in absurd (omega arith)

note-window : (s : Now) (x : Hearing) (i d : ℕ) (w : When) → x.clock ≡ s.clock → when_heard s.hearings i ≡ w
    → reached (when_heard s.hearings i) d s.clock ≡ false → reached (when_heard (s.hearings ++ (x ∷ [])) i) d s.clock ≡ true
    → due_date (when_heard (s.hearings ++ (x ∷ [])) i) d ≡ s.clock
note-window s x i d (since k) c e p q =
    let r : when_heard (s.hearings ++ (x ∷ [])) i ≡ since k = since-stays s.hearings (x ∷ []) i k e in
    let a : reached (since k) d s.clock ≡ false = rw e at p in
    let b : reached (since k) d s.clock ≡ true = rw r at q in
    let z : ◌≡◌ {A = ℕ} 0 1 = cc in absurd (omega arith)
note-window s x i d never c e p q =
    let r : when_heard (s.hearings ++ (x ∷ [])) i ≡ pick (eqb i x.event) (since s.clock) never = rw (← c) (one_more s.hearings x i e) in
    rw r (noted-window d s.clock (eqb i x.event) (rw r at q))

note-by : (s : Now) (room : List ℕ) (h tempo : ℕ) {x : Sent} → By s (moved s (note room h tempo)) x → x.due ≡ s.clock
unfolding moved
note-by s room h tempo b = b.due ∙ note-window s (record { event = h; clock = s.clock }) b.event b.delay _ refl refl b.early b.now

-- ---- call by call

in-granted : {x : Sent} (g : Check Refusal) (l : List Sent) → Memᴰ x (if_granted g l) → Memᴰ x l
unfolding if_granted
in-granted fine l m = m
in-granted (refused y) l m = elim m [ ]

-- Passing time sends what came due while it passed,
pub pass-window : (ds : List ℕ) (es : List Entry) (s : Now) (room : List ℕ) (ms : ℕ) (x : Sent) → Memᴰ x (messages_by ds es s (pass room ms))
    → (s.clock < x.due) × (x.due ≤ s.clock + ms * s.tempo)
unfolding messages_by messages_of
pass-window ds es s room ms x m = pass-by s room ms (between-by ds es s _ (in-granted _ _ m))

-- and a heard note what is due at once.
pub note-due : (ds : List ℕ) (es : List Entry) (s : Now) (room : List ℕ) (h tempo : ℕ) (x : Sent) → Memᴰ x (messages_by ds es s (note room h tempo)) → x.due ≡ s.clock
unfolding messages_by messages_of
note-due ds es s room h tempo x m = note-by s room h tempo (between-by ds es s _ (in-granted _ _ m))
