-- 'Settled': hearing one more event changes nothing that is played or dropped, and whatever it newly plays it plays at itself.
-- An item that was waiting comes to its fate by the new event h alone, and from there on no rule leads away from h. Assumes nothing.
use mathlib.Core.Path.{◌≡◌, refl}
use Prim.Native.Nat.{ℕ, ◌+◌, ◌-◌, ◌≤◌}
use mathlib.Core.Bool.{Bool, true, false}
use mathlib.Core.List.{List, [], ◌∷◌, ◌++◌}
use native.Mathlib.Omega.{arith}
use native.Mathlib.Nat.{le_refl}
use lib.ListN.{length}
use Rattle.base.specs.Tests.{pick}
use Rattle.rules.specs.Terms.{Terms}
use Rattle.rules.specs.Words.{Synchrony, loose, tight, ErrorWord, local, global, partial, causal}
use Rattle.rules.specs.Score.{Seq, end, action, group, E, last_by}
use Rattle.rules.specs.Heard.{Taken, heard, missed, unsettled, taken}
use Rattle.rules.specs.Rules.{Reading, reading_of, Fate, heard_at, missed_by, groups_only, nothing, not_yet, grains, past, future_date, global_start, missed_fate, loosely, sliced_fate, heard_fate, Holder, heard_group, missed_group, missed_top, silent, waiting, fate_of, Outcome, played, undecided, outcome_of, enter, Line, run, top_holder, perform}
use Rattle.rules.specs.Page.{Entry, Cue, cast, cues}
use Rattle.rules.specs.Settled.{Below, Settles, stays, drops, plays, Settled, no_lines, settled_line, SettledCues, no_cues, settled_cue}
use Rattle.rules.proofs.Events.{FateWith, HolderWith, enter-with, missed-with}
use Rattle.rules.proofs.Dates.{last_by-le, last_by-ge}
use Rattle.rules.proofs.HeardLaws.{Turns, same, now, passed, turns, settled-from}

lines-append : {h : ℕ} {l k l' k' : List Line} → Settled h l k → Settled h l' k' → Settled h (l ++ l') (k ++ k')
lines-append no_lines q = q
lines-append (settled_line a p) q = settled_line a (lines-append p q)

-- ---- h, an event of the score ds that comes after all of D, is heard

module _ (terms : Terms) (ds D : List ℕ) (h : ℕ) (fits : h ≤ length ds) (above : Below h D) where
  abbrev before : Reading
  before = reading_of terms ds D

  abbrev after : Reading
  after = reading_of terms ds (D ++ (h ∷ []))

  -- What h alone brings about: at h, and if heard there, not before E(h).
  abbrev HeardFresh : (i t : ℕ) → Type 0
  HeardFresh i t = (i ≡ h) × (E ds h ≤ t)

  abbrev MissedFresh : (j t : ℕ) → Type 0
  MissedFresh j t = j ≡ h

  abbrev Fresh : Fate → Type 0
  Fresh = FateWith HeardFresh MissedFresh

  abbrev FreshHolder : Holder → Type 0
  FreshHolder = HolderWith HeardFresh MissedFresh

  fresh-outcome : (f : Fate) → Fresh f → Settles h undecided (outcome_of after f)
  unfolding outcome_of FateWith
  fresh-outcome (heard_at i t) p = plays p.0
  fresh-outcome (missed_by j t) p = plays p
  fresh-outcome (groups_only j t) p = drops
  fresh-outcome nothing p = drops
  fresh-outcome not_yet p = stays

  fresh-enter : (f : Fate) (y : Synchrony) (e : ErrorWord) → Fresh f → FreshHolder (enter f y e)
  fresh-enter = enter-with HeardFresh MissedFresh

  fresh-missed : (e : ErrorWord) (b s : ℕ) (hear : ℕ → Fate) → ((t : ℕ) → E ds h ≤ t → Fresh (hear t)) → Fresh (missed_fate after e h b s hear)
  unfolding global_start reading_of
  fresh-missed e b s hear f = missed-with HeardFresh MissedFresh after e h b s hear refl (f (global_start after h b + s) (omega arith)) (f (future_date after h (b + s)))

  -- From h on nothing but h is heard, so a slice is heard at h or waits.
  fresh-sliced : (e : ErrorWord) (t : ℕ) (v w : Taken) → E ds h ≤ t → Turns h (last_by ds t) v w → v ≡ unsettled → h ≤ last_by ds t →
      Fresh (sliced_fate after e (last_by ds t) t w)
  unfolding sliced_fate FateWith
  fresh-sliced e t v w l same p n = rw p tt
  fresh-sliced e t v w l (now q) p n = (q, l)
  fresh-sliced e t v w l (passed q) p n = absurd (omega arith)

  fresh-heard : (y : Synchrony) (e : ErrorWord) (t : ℕ) → E ds h ≤ t → Fresh (heard_fate after y e h t)
  unfolding heard_fate FateWith reading_of taken
  fresh-heard loose e t l = (refl, l)
  fresh-heard tight e t l =
      let n : h ≤ last_by ds t = last_by-ge ds t h fits l in
      rw (settled-from h (last_by ds t) above n) (fresh-sliced e t unsettled _ l (turns [] h (last_by ds t)) refl n)

  fresh-fate : (k : Holder) (s : ℕ) → FreshHolder k → Fresh (fate_of after k s)
  unfolding fate_of FateWith HolderWith
  fresh-fate (heard_group y e i b) s p = rw p.0 (fresh-heard y e (b + s) (omega arith))
  fresh-fate (missed_group y e j b) s p = rw p (fresh-missed e b s _ (fresh-heard y e))
  fresh-fate (missed_top j b) s p = p
  fresh-fate silent s p = tt
  fresh-fate waiting s p = tt

  -- What was waiting all through is settled by h.
  fresh-run : (k : Holder) (r s : ℕ) (x : Seq) → FreshHolder k → Settled h (run before waiting r x) (run after k s x)
  unfolding run outcome_of fate_of enter
  fresh-run k r s end p = no_lines
  fresh-run k r s (action d m q x) p = settled_line (fresh-outcome _ (fresh-fate k (s + d) p)) (fresh-run k (r + d) (s + d) x p)
  fresh-run k r s (group d y e b x) p =
      lines-append
      (fresh-run (enter (fate_of after k (s + d)) y e) 0 0 b (fresh-enter _ y e (fresh-fate k (s + d) p)))
      (fresh-run k (r + d) (s + d) x p)

  -- ---- a fate stays, or was waiting

  data Grows : Fate → Fate → Type 0 where
    alike : {f : Fate} → Grows f f
    fresh : {f : Fate} → Fresh f → Grows not_yet f

  missed-alike : (e : ErrorWord) (j b s : ℕ) (hear : ℕ → Fate) → missed_fate before e j b s hear ≡ missed_fate after e j b s hear
  unfolding missed_fate past future_date global_start reading_of
  missed-alike local j b s hear = refl
  missed-alike global j b s hear = refl
  missed-alike partial j b s hear = refl
  missed-alike causal j b s hear = refl

  grow-sliced : (e : ErrorWord) (t : ℕ) (v w : Taken) → Turns h (last_by ds t) v w →
      Grows (sliced_fate before e (last_by ds t) t v) (sliced_fate after e (last_by ds t) t w)
  unfolding sliced_fate FateWith reading_of
  grow-sliced e t heard w same = alike
  grow-sliced e t (missed j) w same = rw (missed-alike e j (E ds (last_by ds t)) (t - E ds (last_by ds t)) (loosely j)) alike
  grow-sliced e t unsettled w same = alike
  grow-sliced e t v w (now p) = fresh {f = heard_at (last_by ds t) (grains t)} (p, rw (← p) (last_by-le ds t))
  grow-sliced e t v w (passed p) = fresh (fresh-missed e _ _ (loosely h) (λ u l. (refl, l)))

  grow-heard : (y : Synchrony) (e : ErrorWord) (i t : ℕ) → Grows (heard_fate before y e i t) (heard_fate after y e i t)
  unfolding heard_fate reading_of
  grow-heard loose e i t = alike
  grow-heard tight e i t = grow-sliced e t _ _ (turns D h (last_by ds t))

  grow-past : (v : Bool) (p f g : Fate) → Grows f g → Grows (pick v p f) (pick v p g)
  unfolding pick
  grow-past true p f g q = alike
  grow-past false p f g q = q

  grow-missed : (e : ErrorWord) (j b s : ℕ) (f g : ℕ → Fate) → ((t : ℕ) → Grows (f t) (g t)) → Grows (missed_fate before e j b s f) (missed_fate after e j b s g)
  unfolding missed_fate past future_date global_start reading_of
  grow-missed local j b s f g q = alike
  grow-missed global j b s f g q = q (global_start before j b + s)
  grow-missed partial j b s f g q = grow-past _ _ _ _ (q (future_date before j (b + s)))
  grow-missed causal j b s f g q = grow-past _ _ _ _ (q (future_date before j (b + s)))

  grow-fate : (k : Holder) (s : ℕ) → Grows (fate_of before k s) (fate_of after k s)
  unfolding fate_of
  grow-fate (heard_group y e i b) s = grow-heard y e i (b + s)
  grow-fate (missed_group y e j b) s = grow-missed e j b s _ _ (grow-heard y e j)
  grow-fate (missed_top j b) s = alike
  grow-fate silent s = alike
  grow-fate waiting s = alike

  outcome-alike : (f : Fate) → outcome_of before f ≡ outcome_of after f
  unfolding outcome_of reading_of
  outcome-alike (heard_at i t) = refl
  outcome-alike (missed_by j t) = refl
  outcome-alike (groups_only j t) = refl
  outcome-alike nothing = refl
  outcome-alike not_yet = refl

  grow-outcome : (f g : Fate) → Grows f g → Settles h (outcome_of before f) (outcome_of after g)
  unfolding outcome_of
  grow-outcome f g alike = rw (outcome-alike f) stays
  grow-outcome f g (fresh p) = fresh-outcome g p

  grow-enter : (y : Synchrony) (e : ErrorWord) (x : Seq) (f g : Fate) → Grows f g → ((k : Holder) → Settled h (run before k 0 x) (run after k 0 x)) →
      Settled h (run before (enter f y e) 0 x) (run after (enter g y e) 0 x)
  unfolding enter
  grow-enter y e x f g alike q = q (enter f y e)
  grow-enter y e x f g (fresh p) q = fresh-run (enter g y e) 0 0 x (fresh-enter g y e p)

  pub settled-run : (k : Holder) (s : ℕ) (x : Seq) → Settled h (run before k s x) (run after k s x)
  unfolding run
  settled-run k s end = no_lines
  settled-run k s (action d m p x) = settled_line (grow-outcome _ _ (grow-fate k (s + d))) (settled-run k (s + d) x)
  settled-run k s (group d y e b x) = lines-append (grow-enter y e b _ _ (grow-fate k (s + d)) (λ n. settled-run n 0 b)) (settled-run k (s + d) x)

  settled-top : (i : ℕ) (x : Seq) (v w : Taken) → Turns h i v w → Settled h (run before (top_holder before i v) 0 x) (run after (top_holder after i w) 0 x)
  unfolding top_holder HolderWith reading_of
  settled-top i x heard w same = settled-run (heard_group loose local i (E ds i)) 0 x
  settled-top i x (missed j) w same = settled-run (missed_top j (E ds i)) 0 x
  settled-top i x unsettled w same = settled-run waiting 0 x
  settled-top i x v w (now p) = fresh-run (heard_group loose local i (E ds i)) 0 0 x (p, rw p (le_refl (E ds h)))
  settled-top i x v w (passed p) = fresh-run (missed_top h (E ds i)) 0 0 x refl

  -- "The sounding parts' messages are sent at the first call, from the one that heard the triple's event on": the events heard before give h's triples nothing,
  -- and h changes none of theirs. Of one sequence:
  pub settled : (i : ℕ) (x : Seq) → Settled h (perform (reading_of terms ds D) i x) (perform (reading_of terms ds (D ++ (h ∷ []))) i x)
  unfolding perform reading_of
  settled i x = settled-top i x _ _ (turns D h i)

  cast-append : (p : ℕ) {l k : List Line} {c d : List Cue} → Settled h l k → SettledCues h c d → SettledCues h (cast p l ++ c) (cast p k ++ d)
  unfolding cast
  cast-append p no_lines q = q
  cast-append p (settled_line a r) q = settled_cue a (cast-append p r q)

  -- Of a whole page:
  pub settled-cues : (es : List Entry) → SettledCues h (cues (reading_of terms ds D) es) (cues (reading_of terms ds (D ++ (h ∷ []))) es)
  unfolding cues
  settled-cues [] = no_cues
  settled-cues (e ∷ es) = cast-append e.part (settled e.event e.body) (settled-cues es)

-- ---- read off: what is played or dropped stays, and what is newly played is played at h

pub decided-stays : {h : ℕ} {o u : Outcome} → Settles h o u → ¬ (o ≡ undecided) → u ≡ o
decided-stays stays n = refl
decided-stays drops n = absurd (n refl)
decided-stays (plays e) n = absurd (n refl)

pub newly-at : {h : ℕ} {o u : Outcome} (i d : ℕ) → Settles h o u → o ≡ undecided → u ≡ played i d → i ≡ h
newly-at i d stays p q = let z : ◌≡◌ {A = ℕ} 0 1 = cc in absurd (omega arith)
newly-at i d drops p q = let z : ◌≡◌ {A = ℕ} 0 1 = cc in absurd (omega arith)
newly-at i d (plays {i = j} e) p q = let z : j ≡ i = cc in omega arith
