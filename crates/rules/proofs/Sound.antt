-- Each written action stands in the lines exactly once, whatever the reading; what is played is played at an event that was heard; and a newly heard event adds
-- just what is played at it. By induction along the sequence, and by Events and Grow. Assumes nothing.
use mathlib.Core.Path.{◌≡◌, refl, ap, ap₂, ◌∙◌}
use Prim.Native.Nat.{ℕ, ◌+◌}
use mathlib.Core.List.{List, [], ◌∷◌, ◌++◌, Memᴰ}
use Rattle.rules.specs.Terms.{Terms}
use Rattle.rules.specs.Score.{Seq, end, action, group}
use Rattle.rules.specs.Heard.{heard, taken}
use Rattle.rules.specs.Rules.{Reading, reading_of, Holder, fate_of, Outcome, played, dropped, undecided, enter, Line, line, run, top_holder, perform}
use Rattle.rules.specs.Page.{Entry, Cue, cast, cues}
use Rattle.rules.specs.Written.{Written, written, actions_of, actions_on, actions_in}
use Rattle.rules.proofs.HeardLaws.{heard-in, next-heard}
use Rattle.rules.proofs.Events.{OutcomeOn, LinesOn, nil, cons, Reaches, perform-on}

-- ---- each action once

actions-append : (c d : List Cue) → actions_in (c ++ d) ≡ actions_in c ++ actions_in d
unfolding actions_in
actions-append [] d = refl
actions-append (x ∷ c) d = ap (λ (l : List Written). written x.place x.part x.message ∷ l) (actions-append c d)

cast-append : (q : ℕ) (l k : List Line) → cast q (l ++ k) ≡ cast q l ++ cast q k
unfolding cast
cast-append q [] k = refl
cast-append q (line p m o ∷ l) k = ap (λ (c : List Cue). record { place = p; part = q; message = m; outcome = o } ∷ c) (cast-append q l k)

pub once-each : (R : Reading) (h : Holder) (s q : ℕ) (x : Seq) → actions_in (cast q (run R h s x)) ≡ actions_of q x
unfolding run cast actions_in actions_of
once-each R h s q end = refl
once-each R h s q (action d m p x) = ap (λ (l : List Written). written p q m ∷ l) (once-each R h (s + d) q x)
once-each R h s q (group d y e b x) =
    rw (cast-append q (run R (enter (fate_of R h (s + d)) y e) 0 b) (run R h (s + d) x))
    (actions-append (cast q (run R (enter (fate_of R h (s + d)) y e) 0 b)) (cast q (run R h (s + d) x))
    ∙ ap₂ ◌++◌ (once-each R (enter (fate_of R h (s + d)) y e) 0 q b) (once-each R h (s + d) q x))

-- "one for each written action": the actions of a page's cues are those of the page, in page order, whatever is heard. So an action is played at most once.
pub each-action-once : (R : Reading) (es : List Entry) → actions_in (cues R es) ≡ actions_on es
unfolding cues actions_in actions_on perform
each-action-once R [] = refl
each-action-once R (e ∷ es) =
    actions-append (cast e.part (run R (top_holder R e.event (R.became e.event)) 0 e.body)) (cues R es)
    ∙ ap₂ ◌++◌ (once-each R (top_holder R e.event (R.became e.event)) 0 e.part e.body) (each-action-once R es)

-- ---- at an event that was heard

-- Each cue that is played is played at an event of D.
pub data PlayedIn (D : List ℕ) : List Cue → Type 0 where
  no_cue : PlayedIn D []
  played_in : {c : Cue} {cs : List Cue} → OutcomeOn (λ k. Memᴰ k D) c.outcome → PlayedIn D cs → PlayedIn D (c ∷ cs)

module _ (terms : Terms) (ds D : List ℕ) where
  reaches : Reaches (reading_of terms ds D) (λ k. taken D k ≡ heard)
  unfolding reading_of
  reaches = record { here = λ t p. p; next = λ t j p. next-heard D _ j p }

  pub played-heard : (i : ℕ) (x : Seq) → LinesOn (λ k. taken D k ≡ heard) (perform (reading_of terms ds D) i x)
  unfolding reading_of
  played-heard i x = perform-on (reading_of terms ds D) (λ k. taken D k ≡ heard) reaches i x (λ p. p) (λ j p. next-heard D i j p)

  outcome-in : (o : Outcome) → OutcomeOn (λ k. taken D k ≡ heard) o → OutcomeOn (λ k. Memᴰ k D) o
  unfolding OutcomeOn
  outcome-in (played i d) p = heard-in D i p
  outcome-in dropped p = tt
  outcome-in undecided p = tt

  cast-in : (q : ℕ) {l : List Line} {c : List Cue} → LinesOn (λ k. taken D k ≡ heard) l → PlayedIn D c → PlayedIn D (cast q l ++ c)
  unfolding cast
  cast-in q nil r = r
  cast-in q (cons {o = o} a p) r = played_in (outcome-in o a) (cast-in q p r)

  -- "D is the set of events heard": whatever is played is played at one of them.
  pub played-at-heard : (es : List Entry) → PlayedIn D (cues (reading_of terms ds D) es)
  unfolding cues
  played-at-heard [] = no_cue
  played-at-heard (e ∷ es) = cast-in e.part (played-heard e.event e.body) (played-at-heard es)
