-- The rules depend only on what a reading answers about the events that they ask for; and a score's reading answers as document 01 says.
-- Assumes nothing.
use mathlib.Core.Path.{◌≡◌, refl, ap, ap₂, ◌∙◌}
use Prim.Native.Nat.{ℕ, ◌+◌, ◌-◌, ◌≤◌}
use mathlib.Core.List.{List, [], ◌∷◌, ◌++◌}
use native.Mathlib.Omega.{arith}
use lib.ListN.{length}
use Rattle.rules.specs.Terms.{Terms}
use Rattle.rules.specs.Words.{Synchrony, loose, tight, ErrorWord, local, global, partial, causal}
use Rattle.rules.specs.Score.{Seq, end, action, group}
use Rattle.rules.specs.Heard.{Taken, heard, missed, unsettled}
use Rattle.rules.specs.Rules.{Reading, reading_of, Fate, heard_at, missed_by, groups_only, nothing, not_yet, future_date, global_start, missed_fate, loosely, sliced_fate, heard_fate, Holder, heard_group, missed_group, missed_top, silent, waiting, fate_of, outcome_of, enter, run, top_holder, perform}
use Rattle.rules.specs.Page.{Entry, cast, cues}
use Rattle.rules.specs.Groups.{Orderly}
use Rattle.rules.proofs.PastLaws.{past-agrees, future-agrees}
use Rattle.rules.proofs.Dates.{last_by-le, last_by-some, last_by-fits, last_by-mono, E-mono}
use Rattle.rules.proofs.HeardLaws.{next-heard, next-after}
use Rattle.rules.proofs.Events.{FateWith, HolderWith, FateOn, HolderOn, enter-on, Reaches, fate-on, top-on}

-- ---- the reading of a score, whatever was heard

pub score-orderly : (terms : Terms) (ds D : List ℕ) → 1 ≤ length ds → Orderly (reading_of terms ds D) (length ds)
unfolding reading_of
score-orderly terms ds D h =
    record {
      some = λ t. last_by-some ds t h;
      fits = last_by-fits ds;
      begun = last_by-le ds;
      rises = last_by-mono ds;
      next = next-heard D;
      ahead = λ i j p. E-mono ds i j (omega (arith, next-after D i j p));
    }

-- ---- two readings that answer alike about the events 1 to n, where no answer leads out of these

-- "Events are numbered from 1": k is one of n.
abbrev pub Among : ℕ → ℕ → Type 0
Among n k = (1 ≤ k) × (k ≤ n)

pub record Agree (n : ℕ) (R Q : Reading) : Type 0 where
  pub start : (k : ℕ) → Among n k → R.start k ≡ Q.start k
  pub last_before : (t : ℕ) → R.last_before t ≡ Q.last_before t
  pub became : (k : ℕ) → Among n k → R.became k ≡ Q.became k
  pub grace : R.grace ≡ Q.grace
  pub fits : (t : ℕ) → Among n (R.last_before t)
  pub next : (k j : ℕ) → Among n k → R.became k ≡ missed j → Among n j

module _ (n : ℕ) (R Q : Reading) (a : Agree n R Q) where
  abbrev In : ℕ → Type 0
  In = Among n

  reaches : Reaches R In
  reaches = record { here = λ t p. a.fits t; next = λ t j p. a.next (R.last_before t) j (a.fits t) p }

  missed-agrees : (e : ErrorWord) (j b s : ℕ) (h k : ℕ → Fate) → In j → ((t : ℕ) → h t ≡ k t) → missed_fate R e j b s h ≡ missed_fate Q e j b s k
  unfolding missed_fate global_start
  missed-agrees local j b s h k p f = refl
  missed-agrees global j b s h k p f = rw (a.start j p) (f (global_start Q j b + s))
  missed-agrees partial j b s h k p f = rw (past-agrees R Q j (b + s) (a.start j p) a.grace, future-agrees R Q j (b + s) (a.start j p), f (future_date Q j (b + s)))
  missed-agrees causal j b s h k p f = rw (past-agrees R Q j (b + s) (a.start j p) a.grace, future-agrees R Q j (b + s) (a.start j p), f (future_date Q j (b + s)))

  sliced-agrees : (e : ErrorWord) (k t : ℕ) (v : Taken) → In k → R.became k ≡ v → sliced_fate R e k t v ≡ sliced_fate Q e k t v
  unfolding sliced_fate
  sliced-agrees e k t heard p q = refl
  sliced-agrees e k t (missed j) p q = rw (a.start k p) (missed-agrees e j (Q.start k) (t - Q.start k) (loosely j) (loosely j) (a.next k j p q) (λ u. refl))
  sliced-agrees e k t unsettled p q = refl

  heard-agrees : (y : Synchrony) (e : ErrorWord) (i t : ℕ) → heard_fate R y e i t ≡ heard_fate Q y e i t
  unfolding heard_fate
  heard-agrees loose e i t = refl
  heard-agrees tight e i t =
      sliced-agrees e (R.last_before t) t (R.became (R.last_before t)) (a.fits t) refl
      ∙ (ap (sliced_fate Q e (R.last_before t) t) (a.became (R.last_before t) (a.fits t))
      ∙ ap (λ (k : ℕ). sliced_fate Q e k t (Q.became k)) (a.last_before t))

  fate-agrees : (h : Holder) (s : ℕ) → HolderOn In h → fate_of R h s ≡ fate_of Q h s
  unfolding fate_of HolderWith
  fate-agrees (heard_group y e i b) s p = heard-agrees y e i (b + s)
  fate-agrees (missed_group y e j b) s p = missed-agrees e j b s _ _ p (heard-agrees y e j)
  fate-agrees (missed_top j b) s p = refl
  fate-agrees silent s p = refl
  fate-agrees waiting s p = refl

  outcome-agrees : (f : Fate) → FateOn In f → outcome_of R f ≡ outcome_of Q f
  unfolding outcome_of FateWith
  outcome-agrees (heard_at i t) p = rw (a.start i p)
  outcome-agrees (missed_by j t) p = rw (a.start j p)
  outcome-agrees (groups_only j t) p = refl
  outcome-agrees nothing p = refl
  outcome-agrees not_yet p = refl

  pub run-agrees : (h : Holder) (s : ℕ) (x : Seq) → HolderOn In h → run R h s x ≡ run Q h s x
  unfolding run
  run-agrees h s end p = refl
  run-agrees h s (action d m q x) p = rw (outcome-agrees _ (fate-on R In reaches h (s + d) p), fate-agrees h (s + d) p, run-agrees h (s + d) x p)
  run-agrees h s (group d y e b x) p =
      ap₂ ◌++◌
      (run-agrees (enter (fate_of R h (s + d)) y e) 0 b (enter-on In _ y e (fate-on R In reaches h (s + d) p))
      ∙ ap (λ (f : Fate). run Q (enter f y e) 0 b) (fate-agrees h (s + d) p))
      (run-agrees h (s + d) x p)

  top-agrees : (i : ℕ) (v : Taken) → In i → top_holder R i v ≡ top_holder Q i v
  unfolding top_holder
  top-agrees i heard p = rw (a.start i p)
  top-agrees i (missed j) p = rw (a.start i p)
  top-agrees i unsettled p = refl

  pub perform-agrees : (i : ℕ) (x : Seq) → In i → perform R i x ≡ perform Q i x
  unfolding perform
  perform-agrees i x p =
      run-agrees (top_holder R i (R.became i)) 0 x (top-on R In reaches i _ (λ q. p) (λ j q. a.next i j p q))
      ∙ ap (λ (h : Holder). run Q h 0 x) (top-agrees i (R.became i) p ∙ ap (top_holder Q i) (a.became i p))

-- The events of these sequences are 1 to n.
pub data Within (n : ℕ) : List Entry → Type 0 where
  no_entries : Within n []
  entry_within : {e : Entry} {es : List Entry} → Among n e.event → Within n es → Within n (e ∷ es)

pub cues-agree : (n : ℕ) (R Q : Reading) → Agree n R Q → {es : List Entry} → Within n es → cues R es ≡ cues Q es
unfolding cues
cues-agree n R Q a no_entries = refl
cues-agree n R Q a (entry_within {e = e} p w) = ap₂ ◌++◌ (ap (cast e.part) (perform-agrees n R Q a e.event e.body p)) (cues-agree n R Q a w)
