-- What a call does to the outcomes and to their due dates: a heard note lets what was played stay, with its clock reading, and what it newly plays is played from
-- its own clock reading on; passing time changes none.
-- Assumes nothing.
use mathlib.Core.Path.{◌≡◌, refl, ap}
use Prim.Native.Nat.{ℕ, suc, ◌≤◌, ◌<◌}
use mathlib.Core.Bool.{Bool, true, false}
use mathlib.Core.List.{List, [], ◌∷◌, ◌++◌, Memᴰ}
use native.Mathlib.Omega.{arith}
use native.Mathlib.Nat.{le_refl}
use lib.Dec.{eqb}
use lib.ListN.{length}
use borrow.Author.Tests.{ltb-true, eq-eqb, ne_eqb}
use Rattle.base.specs.Tests.{pick}
use Rattle.base.proofs.TestLaws.{between-low, between-high}
use Rattle.base.proofs.CheckLaws.{first_rest, first_holds}
use Rattle.rules.specs.Terms.{Terms}
use Rattle.rules.specs.Rules.{reading_of, Outcome, played, dropped, undecided}
use Rattle.rules.specs.Page.{Entry, Cue, cues}
use Rattle.rules.specs.Settled.{Below, nothing_heard, heard_before, Settles, stays, drops, plays, SettledCues, no_cues, settled_cue}
use Rattle.rules.proofs.HeardLaws.{below_up, below-one-more}
use Rattle.rules.proofs.Events.{OutcomeOn}
use Rattle.rules.proofs.Grow.{settled-cues}
use Rattle.rules.proofs.Sound.{PlayedIn, no_cue, played_in, played-at-heard}
use Rattle.session.specs.declared.Refusal.{Refusal}
use Rattle.base.specs.Checks.{Check, fine, refused}
use Rattle.demands.specs.History.{Call, note, pass, report, look_up, Hearing, Now, start, heard_events, verdict, moved, kept, after}
use Rattle.demands.specs.Messages.{never, since, when_heard}
use Rattle.demands.specs.Demands.{after_all}

-- ---- the clock reading of an event

pub heard-since : (hs : List Hearing) (i : ℕ) → Memᴰ i (heard_events hs) → (k : ℕ) × (when_heard hs i ≡ since k)
unfolding heard_events when_heard pick
heard-since [] i m = elim m [ ]
heard-since (h ∷ hs) i (Memᴰ.head e) = (h.clock, rw (eq-eqb i h.event e))
heard-since (h ∷ hs) i (Memᴰ.tail m) = go (eqb i h.event) refl (heard-since hs i m)
  where
    go : (t : Bool) → eqb i h.event ≡ t → (k : ℕ) × (when_heard hs i ≡ since k) → (k : ℕ) × (when_heard (h ∷ hs) i ≡ since k)
    go true e r = (h.clock, rw e)
    go false e r = (r.0, rw e r.1)

pub since-stays : (hs more : List Hearing) (i k : ℕ) → when_heard hs i ≡ since k → when_heard (hs ++ more) i ≡ since k
unfolding when_heard pick
since-stays [] more i k e = let z : ◌≡◌ {A = ℕ} 0 1 = cc in absurd (omega arith)
since-stays (h ∷ hs) more i k e = go (eqb i h.event) refl (since-stays hs more i k)
  where
    go : (t : Bool) → eqb i h.event ≡ t → (when_heard hs i ≡ since k → when_heard (hs ++ more) i ≡ since k) → when_heard (h ∷ (hs ++ more)) i ≡ since k
    go true q ih = rw q (rw q at e)
    go false q ih = rw q (ih (rw q at e))

pub never-before : (hs : List Hearing) (h : ℕ) → Below h (heard_events hs) → when_heard hs h ≡ never
unfolding when_heard heard_events pick
never-before [] h b = refl
never-before (x ∷ hs) h (heard_before l b) = rw (ne_eqb h x.event (λ e. omega arith)) (never-before hs h b)

pub since-now : (hs : List Hearing) (x : Hearing) → Below x.event (heard_events hs) → when_heard (hs ++ (x ∷ [])) x.event ≡ since x.clock
unfolding when_heard heard_events pick
since-now [] x b = rw (eq-eqb x.event x.event refl)
since-now (y ∷ hs) x (heard_before l b) = rw (ne_eqb x.event y.event (λ e. omega arith)) (since-now hs x b)

pub heard-one-more : (hs : List Hearing) (x : Hearing) → heard_events (hs ++ (x ∷ [])) ≡ heard_events hs ++ (x.event ∷ [])
unfolding heard_events
heard-one-more [] x = refl
heard-one-more (h ∷ hs) x = ap (λ (l : List ℕ). h.event ∷ l) (heard-one-more hs x)

-- ---- one outcome, from the hearings a to the hearings b

pub data Becomes (a b : List Hearing) (clock : ℕ) : Outcome → Outcome → Type 0 where
  holds : {i d : ℕ} (k : ℕ) → when_heard a i ≡ since k → when_heard b i ≡ since k → Becomes a b clock (played i d) (played i d)
  lost : Becomes a b clock dropped dropped
  waits : Becomes a b clock undecided undecided
  falls : Becomes a b clock undecided dropped
  begins : {i d : ℕ} → when_heard a i ≡ never → when_heard b i ≡ since clock → Becomes a b clock undecided (played i d)

-- Cue by cue: place, part and message stay.
pub data AllBecome (a b : List Hearing) (clock : ℕ) : List Cue → List Cue → Type 0 where
  none : AllBecome a b clock [] []
  one : {x p m : ℕ} {o u : Outcome} {l k : List Cue} → Becomes a b clock o u → AllBecome a b clock l k
      → AllBecome a b clock (record { place = x; part = p; message = m; outcome = o } ∷ l) (record { place = x; part = p; message = m; outcome = u } ∷ k)

kept-becomes : (hs : List Hearing) (x : Hearing) (o : Outcome) → OutcomeOn (λ k. Memᴰ k (heard_events hs)) o → Becomes hs (hs ++ (x ∷ [])) x.clock o o
unfolding OutcomeOn
kept-becomes hs x (played i d) p = let r = heard-since hs i p in holds r.0 r.1 (since-stays hs (x ∷ []) i r.0 r.1)
kept-becomes hs x dropped p = lost
kept-becomes hs x undecided p = waits

still-becomes : (hs : List Hearing) (c : ℕ) (o : Outcome) → OutcomeOn (λ k. Memᴰ k (heard_events hs)) o → Becomes hs hs c o o
unfolding OutcomeOn
still-becomes hs c (played i d) p = let r = heard-since hs i p in holds r.0 r.1 r.1
still-becomes hs c dropped p = lost
still-becomes hs c undecided p = waits

settled-becomes : (hs : List Hearing) (x : Hearing) {o u : Outcome} → Below x.event (heard_events hs) → OutcomeOn (λ k. Memᴰ k (heard_events hs)) o
    → Settles x.event o u → Becomes hs (hs ++ (x ∷ [])) x.clock o u
settled-becomes hs x b p (stays {o = o}) = kept-becomes hs x o p
settled-becomes hs x b p drops = falls
settled-becomes hs x b p (plays {i = i} e) = begins {i = i} (rw e (never-before hs x.event b)) (rw e (since-now hs x b))

all-become : (hs : List Hearing) (x : Hearing) {l k : List Cue} → Below x.event (heard_events hs) → PlayedIn (heard_events hs) l → SettledCues x.event l k
    → AllBecome hs (hs ++ (x ∷ [])) x.clock l k
all-become hs x b p no_cues = none
all-become hs x b (played_in q p) (settled_cue t r) = one (settled-becomes hs x b q t) (all-become hs x b p r)

-- Passing time: nothing is heard.
still-become : (hs : List Hearing) (c : ℕ) {l : List Cue} → PlayedIn (heard_events hs) l → AllBecome hs hs c l l
still-become hs c no_cue = none
still-become hs c (played_in {c = x} q p) = one (still-becomes hs c x.outcome q) (still-become hs c p)

pub pass-becomes : (o : Terms) (ds : List ℕ) (hs : List Hearing) (c : ℕ) (es : List Entry)
    → AllBecome hs hs c (cues (reading_of o ds (heard_events hs)) es) (cues (reading_of o ds (heard_events hs)) es)
pass-becomes o ds hs c es = still-become hs c (played-at-heard o ds (heard_events hs) es)

-- A heard note: x is its hearing.
pub note-becomes : (o : Terms) (ds : List ℕ) (hs : List Hearing) (x : Hearing) → x.event ≤ length ds → Below x.event (heard_events hs) → (es : List Entry)
    → AllBecome hs (hs ++ (x ∷ [])) x.clock (cues (reading_of o ds (heard_events hs)) es) (cues (reading_of o ds (heard_events hs ++ (x.event ∷ []))) es)
note-becomes o ds hs x f b es = all-become hs x b (played-at-heard o ds (heard_events hs) es) (settled-cues o ds (heard_events hs) x.event f b es)

-- ---- the moments that calls lead to

-- Every event heard is at most the last.
pub record UpToLast (s : Now) : Type 0 where
  pub below : Below (suc s.last) (heard_events s.hearings)

pub start-up-to-last : (o : Terms) → UpToLast (start o)
unfolding start heard_events
start-up-to-last o = record { below = nothing_heard }

-- "event number 0 or above the last", "event not after the last one heard" are refused.
pub record NextEvent (events last h : ℕ) : Type 0 where
  pub some : 1 ≤ h
  pub few : h ≤ events
  pub next : last < h

pub granted-fits : (events : ℕ) (s : Now) (room : List ℕ) (h tempo : ℕ) → verdict events s (note room h tempo) ≡ fine → NextEvent events s.last h
unfolding verdict
granted-fits events s room h tempo e =
    let event = first_rest _ _ e in
    let known = first_holds _ _ _ event in
    record { some = between-low 1 events h known; few = between-high 1 events h known; next = ltb-true _ _ (first_holds _ _ _ (first_rest _ _ event)) }

pub below-note : (events : ℕ) (s : Now) (h : ℕ) → UpToLast s → NextEvent events s.last h → Below h (heard_events s.hearings)
below-note events s h o f = below_up (suc s.last) h f.next o.below

pub moved-up-to-last : (events : ℕ) (s : Now) (c : Call) → verdict events s c ≡ fine → UpToLast s → UpToLast (moved s c)
unfolding moved
moved-up-to-last events s (note room h tempo) e o =
    let f = granted-fits events s room h tempo e in
    record { below = rw (heard-one-more s.hearings (record { event = h; clock = s.clock })) (below-one-more h (suc h) (le_refl (suc h)) (below-note events s h o f)) }
moved-up-to-last events s (pass room ms) e o = record { below = o.below }
moved-up-to-last events s report e o = o
moved-up-to-last events s (look_up n) e o = o

pub after-up-to-last : (events : ℕ) (s : Now) (c : Call) → UpToLast s → UpToLast (after events s c)
unfolding after kept
after-up-to-last events s c o = go (verdict events s c) refl
  where
    go : (g : Check Refusal) → verdict events s c ≡ g → UpToLast (kept g s (moved s c))
    go fine e = moved-up-to-last events s c e o
    go (refused x) e = o

pub all-up-to-last : (events : ℕ) (s : Now) (cs : List Call) → UpToLast s → UpToLast (after_all events s cs)
unfolding after_all
all-up-to-last events s [] o = o
all-up-to-last events s (c ∷ cs) o = all-up-to-last events (after events s c) cs (after-up-to-last events s c o)
