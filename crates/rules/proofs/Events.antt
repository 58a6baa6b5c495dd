-- What holds of the events and dates that the rules go to, missed groups by one law; and at which events actions are played.
-- Assumes nothing.
use mathlib.Core.Path.{◌≡◌, refl}
use Prim.Native.Nat.{ℕ, ◌+◌, ◌≤◌}
use mathlib.Core.Bool.{Bool, true, false}
use mathlib.Core.List.{List, [], ◌∷◌, ◌++◌}
use Rattle.base.specs.Tests.{pick}
use Rattle.rules.specs.Words.{Synchrony, loose, tight, ErrorWord, local, global, partial, causal}
use Rattle.rules.specs.Score.{Seq, end, action, group}
use Rattle.rules.specs.Heard.{Taken, heard, missed, unsettled}
use Rattle.rules.specs.Rules.{Reading, Fate, heard_at, missed_by, groups_only, nothing, not_yet, past, future_date, global_start, missed_fate, loosely, sliced_fate, heard_fate, Holder, heard_group, missed_group, missed_top, silent, waiting, fate_of, Outcome, played, dropped, undecided, outcome_of, enter, Line, line, run, top_holder, perform}
use Rattle.rules.proofs.PastLaws.{future-from}

-- ---- what is heard has P of its event and date, what is missed has Q

module _ (P Q : (event date : ℕ) → Type 0) where
  unfoldable pub FateWith : Fate → Type 0
  FateWith (heard_at i t) = P i t.0
  FateWith (missed_by j t) = Q j t.0
  FateWith (groups_only j t) = Q j t.0
  FateWith nothing = Unit {0}
  FateWith not_yet = Unit {0}

  unfoldable pub HolderWith : Holder → Type 0
  HolderWith (heard_group y e i b) = P i b
  HolderWith (missed_group y e j b) = Q j b
  HolderWith (missed_top j b) = Q j b
  HolderWith silent = Unit {0}
  HolderWith waiting = Unit {0}

  pub enter-with : (f : Fate) (y : Synchrony) (e : ErrorWord) → FateWith f → HolderWith (enter f y e)
  unfolding enter FateWith HolderWith
  enter-with (heard_at i t) y e p = p
  enter-with (missed_by j t) y e p = p
  enter-with (groups_only j t) y e p = p
  enter-with nothing y e p = tt
  enter-with not_yet y e p = tt

  past-with : (R : Reading) (j t : ℕ) (f g : Fate) → FateWith f → (R.start j ≤ future_date R j t → FateWith g) → FateWith (pick (past R j t) f g)
  unfolding pick
  past-with R j t f g a b = go (past R j t) refl
    where
      go : (v : Bool) → past R j t ≡ v → FateWith (pick v f g)
      go true p = a
      go false p = b (future-from R j t)

  -- A missed group's item, by its date, where it is heard with its global group, and where it is future.
  pub missed-with : (R : Reading) (e : ErrorWord) (j b s : ℕ) (hear : ℕ → Fate) → Q j (b + s) → FateWith (hear (global_start R j b + s)) →
      (R.start j ≤ future_date R j (b + s) → FateWith (hear (future_date R j (b + s)))) → FateWith (missed_fate R e j b s hear)
  unfolding missed_fate FateWith
  missed-with R local j b s hear p g f = tt
  missed-with R global j b s hear p g f = g
  missed-with R partial j b s hear p g f = past-with R j (b + s) _ _ p f
  missed-with R causal j b s hear p g f = past-with R j (b + s) _ _ p f

-- ---- P holds of the event of a fate, a holder, an outcome, if it has one

abbrev pub FateOn : (ℕ → Type 0) → Fate → Type 0
FateOn P = FateWith (λ i t. P i) (λ j t. P j)

abbrev pub HolderOn : (ℕ → Type 0) → Holder → Type 0
HolderOn P = HolderWith (λ i t. P i) (λ j t. P j)

unfoldable pub OutcomeOn : (ℕ → Type 0) → Outcome → Type 0
OutcomeOn P (played i d) = P i
OutcomeOn P dropped = Unit {0}
OutcomeOn P undecided = Unit {0}

-- Each line that is played is played at an event of which P holds.
pub data LinesOn (P : ℕ → Type 0) : List Line → Type 0 where
  nil : LinesOn P []
  cons : {p m : ℕ} {o : Outcome} {l : List Line} → OutcomeOn P o → LinesOn P l → LinesOn P (line p m o ∷ l)

lines-append : {P : ℕ → Type 0} {l k : List Line} → LinesOn P l → LinesOn P k → LinesOn P (l ++ k)
lines-append nil q = q
lines-append (cons a p) q = cons a (lines-append p q)

pub enter-on : (P : ℕ → Type 0) (f : Fate) (y : Synchrony) (e : ErrorWord) → FateOn P f → HolderOn P (enter f y e)
enter-on P = enter-with (λ i t. P i) (λ j t. P j)

outcome-on : (R : Reading) (P : ℕ → Type 0) (f : Fate) → FateOn P f → OutcomeOn P (outcome_of R f)
unfolding outcome_of FateWith OutcomeOn
outcome-on R P (heard_at i t) p = p
outcome-on R P (missed_by j t) p = p
outcome-on R P (groups_only j t) p = tt
outcome-on R P nothing p = tt
outcome-on R P not_yet p = tt

-- P holds of the events to which slices go, as heard or as missed.
pub record Reaches (R : Reading) (P : ℕ → Type 0) : Type 0 where
  pub here : (t : ℕ) → R.became (R.last_before t) ≡ heard → P (R.last_before t)
  pub next : (t j : ℕ) → R.became (R.last_before t) ≡ missed j → P j

module _ (R : Reading) (P : ℕ → Type 0) (r : Reaches R P) where
  missed-on : (e : ErrorWord) (j b s : ℕ) (hear : ℕ → Fate) → P j → ((t : ℕ) → FateOn P (hear t)) → FateOn P (missed_fate R e j b s hear)
  missed-on e j b s hear p f = missed-with (λ i t. P i) (λ k t. P k) R e j b s hear p (f _) (λ l. f _)

  sliced-on : (e : ErrorWord) (t : ℕ) (a : Taken) → R.became (R.last_before t) ≡ a → FateOn P (sliced_fate R e (R.last_before t) t a)
  unfolding sliced_fate FateWith
  sliced-on e t heard p = r.here t p
  sliced-on e t (missed j) p = missed-on e j _ _ (loosely j) (r.next t j p) (λ u. r.next t j p)
  sliced-on e t unsettled p = tt

  heard-on : (y : Synchrony) (e : ErrorWord) (i t : ℕ) → P i → FateOn P (heard_fate R y e i t)
  unfolding heard_fate FateWith
  heard-on loose e i t p = p
  heard-on tight e i t p = sliced-on e t _ refl

  pub fate-on : (h : Holder) (s : ℕ) → HolderOn P h → FateOn P (fate_of R h s)
  unfolding fate_of FateWith HolderWith
  fate-on (heard_group y e i b) s p = heard-on y e i (b + s) p
  fate-on (missed_group y e j b) s p = missed-on e j b s _ p (λ t. heard-on y e j t p)
  fate-on (missed_top j b) s p = p
  fate-on silent s p = tt
  fate-on waiting s p = tt

  pub run_on : (h : Holder) (s : ℕ) (x : Seq) → HolderOn P h → LinesOn P (run R h s x)
  unfolding run
  run_on h s end p = nil
  run_on h s (action d m q x) p = cons (outcome-on R P _ (fate-on h (s + d) p)) (run_on h (s + d) x p)
  run_on h s (group d y e b x) p = lines-append (run_on (enter (fate_of R h (s + d)) y e) 0 b (enter-on P _ y e (fate-on h (s + d) p))) (run_on h (s + d) x p)

  pub top-on : (i : ℕ) (a : Taken) → (a ≡ heard → P i) → ((j : ℕ) → a ≡ missed j → P j) → HolderOn P (top_holder R i a)
  unfolding top_holder HolderWith
  top-on i heard p q = p refl
  top-on i (missed j) p q = q j refl
  top-on i unsettled p q = tt

  pub perform-on : (i : ℕ) (x : Seq) → (R.became i ≡ heard → P i) → ((j : ℕ) → R.became i ≡ missed j → P j) → LinesOn P (perform R i x)
  unfolding perform
  perform-on i x p q = run_on _ 0 x (top-on i _ p q)
