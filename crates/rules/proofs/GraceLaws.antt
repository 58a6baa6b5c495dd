-- With a grace of 0 the rules split a missed group as document 01 does: split so, and with document 02's delay of a missed global group, they keep to its sentences, and
-- nothing else does. And what no grace changes: the actions of a missed causal group, and all that is performed where no event is missed. Assumes nothing.
use mathlib.Core.Path.{◌≡◌, refl, ap, ap₂, sym, ◌∙◌}
use Prim.Native.Nat.{ℕ, ◌+◌, ◌≤◌}
use mathlib.Core.Bool.{Bool, true, false, not}
use mathlib.Core.List.{List, ◌++◌}
use native.Mathlib.Omega.{arith}
use lib.ListN.{length}
use Rattle.base.specs.Tests.{pick}
use Rattle.rules.specs.Terms.{Terms}
use Rattle.rules.specs.Words.{Synchrony, loose, tight, ErrorWord, partial, causal}
use Rattle.rules.specs.Score.{Seq, end, action, group, last_by}
use Rattle.rules.specs.Heard.{Taken, heard, missed, unsettled, taken}
use Rattle.rules.specs.Rules.{Reading, reading_of, Fate, heard_at, missed_by, groups_only, nothing, not_yet, grains, past, future_date, missed_fate, sliced_fate, heard_fate, Holder, heard_group, missed_group, missed_top, silent, waiting, fate_of, played, outcome_of, enter, run, top_holder, perform, Triple, triples}
use Rattle.rules.specs.Page.{Entry, cast, cues}
use Rattle.rules.specs.Groups.{perform_from, select, own_date, past_items, past_groups, future, future_items, Split, split_of, global_delay, Orderly}
use Rattle.rules.specs.GroupWise.{GroupWise}
use Rattle.rules.specs.Document01.{past01, future01, split01}
use Rattle.rules.proofs.PastLaws.{past-01, future-01, late-future, future-raised, future-kept}
use Rattle.rules.proofs.Dates.{last_by-some, last_by-fits}
use Rattle.rules.proofs.Readings.{Among, Within, no_entries, entry_within}
use Rattle.rules.proofs.GroupWiseLaws.{yields, rules-group-wise, only-reading}

-- ---- the same items, by the same tests, where what is taken has the same date

select-same : (f g : ℕ → ℕ) (A B G H : ℕ → Bool) → ((t : ℕ) → A t ≡ B t) → ((t : ℕ) → G t ≡ H t) → ((t : ℕ) → B t ≡ true → f t ≡ g t) → ((t : ℕ) → H t ≡ true → f t ≡ g t)
    → (b s c : ℕ) (x : Seq) → select f A G b s c x ≡ select g B H b s c x
unfolding select
select-same f g A B G H a h d e b s c end = refl
select-same f g A B G H a h d e b s c (action n m p r) = go (B (b + (s + n))) refl (λ z. select-same f g A B G H a h d e b (s + n) z r)
  where
    go : (v : Bool) → B (b + (s + n)) ≡ v → ((z : ℕ) → select f A G b (s + n) z r ≡ select g B H b (s + n) z r) →
        select f A G b s c (action n m p r) ≡ select g B H b s c (action n m p r)
    go true q ih = rw (a (b + (s + n)), q, select, d (b + (s + n)) q, ih (g (b + (s + n))))
    go false q ih = rw (a (b + (s + n)), q, select) (ih c)
select-same f g A B G H a h d e b s c (group n y w x r) = go (H (b + (s + n))) refl (λ z. select-same f g A B G H a h d e b (s + n) z r)
  where
    go : (v : Bool) → H (b + (s + n)) ≡ v → ((z : ℕ) → select f A G b (s + n) z r ≡ select g B H b (s + n) z r) →
        select f A G b s c (group n y w x r) ≡ select g B H b s c (group n y w x r)
    go true q ih = rw (h (b + (s + n)), q, select, e (b + (s + n)) q, ih (g (b + (s + n))))
    go false q ih = rw (h (b + (s + n)), q, select) (ih c)

-- ---- two splits that are the same

-- They take the same items to the same dates.
pub record Alike (S T : Split) : Type 0 where
  items : (j b c : ℕ) (x : Seq) → S.items j b c x ≡ T.items j b c x
  groups : (j b c : ℕ) (x : Seq) → S.groups j b c x ≡ T.groups j b c x
  later : (j b : ℕ) (x : Seq) → S.future j b x ≡ T.future j b x

pub flip : {S T : Split} → Alike S T → Alike T S
flip a =
    record {
      items = λ j b c x. sym (a.items j b c x);
      groups = λ j b c x. sym (a.groups j b c x);
      later = λ j b x. sym (a.later j b x);
    }

pub resplit : (R : Reading) (S T : Split) (G : (i j d : ℕ) → ℕ) (n : ℕ) (P : (i d : ℕ) → Seq → List Triple) → Alike S T → GroupWise R S G n P → GroupWise R T G n P
resplit R S T G n P a p =
    record {
      no_items = p.no_items;
      action_first = p.action_first;
      group_first = p.group_first;
      nothing_yet = p.nothing_yet;
      heard_action = p.heard_action;
      heard_loose = p.heard_loose;
      heard_tight = p.heard_tight;
      missed_action = p.missed_action;
      missed_local = p.missed_local;
      missed_global = p.missed_global;
      missed_causal =
          λ i j d y x h. p.missed_causal i j d y x h
          ∙ ap₂ (λ (z w : Seq). P i 0 z ++ P j 0 (group 0 y causal w end)) (a.items j (R.start i + d) (R.start i) x) (a.later j (R.start i + d) x);
      missed_partial =
          λ i j d y x h. p.missed_partial i j d y x h
          ∙ ap₂ (λ (z w : Seq). P i 0 z ++ P j 0 (group 0 y partial w end)) (a.groups j (R.start i + d) (R.start i) x) (a.later j (R.start i + d) x);
    }

-- ---- a grace of 0

module _ (R : Reading) (none : R.grace ≡ 0) where
  future-same : (j t : ℕ) → future R j t ≡ future01 R j t
  unfolding future future01
  future-same j t = ap not (past-01 R j t none)

  own : (j t : ℕ) → future01 R j t ≡ true → future_date R j t ≡ own_date t
  unfolding future01
  own j t e = future-01 R j t (go (past01 R j t) e)
    where
      go : (v : Bool) → not v ≡ true → v ≡ false
      go true q = sym q
      go false q = refl

  pub same-split : Alike (split_of R) (split01 R)
  unfolding split_of split01 past_items past_groups future_items
  same-split =
      record {
        items = λ j b c x. select-same _ _ _ _ _ _ (λ t. past-01 R j t none) (λ t. past-01 R j t none) (λ t e. refl) (λ t e. refl) b 0 c x;
        groups = λ j b c x. select-same _ _ _ _ _ _ (λ t. refl) (λ t. past-01 R j t none) (λ t e. refl) (λ t e. refl) b 0 c x;
        later = λ j b x. select-same _ _ _ _ _ _ (future-same j) (future-same j) (own j) (own j) b 0 (R.start j) x;
      }

  module _ (n : ℕ) (o : Orderly R n) where
    -- With no grace the rules keep to document 01's sentences, with document 02's delay of a missed global group,
    pub rules-split-01 : GroupWise R (split01 R) (global_delay R) n (yields R n o)
    rules-split-01 = resplit R (split_of R) (split01 R) (global_delay R) n (yields R n o) same-split (rules-group-wise R n o)

    -- and whatever keeps to these yields just their triples.
    pub only-split-01 : (P : (i d : ℕ) → Seq → List Triple) → GroupWise R (split01 R) (global_delay R) n P → (i d : ℕ) (x : Seq) → P i d x ≡ triples (perform_from R i d x)
    only-split-01 P p i d x = only-reading R n o P (resplit R (split01 R) (split_of R) (global_delay R) n P (flip same-split) p) i d x

-- ---- what no grace changes

module _ (R : Reading) (j b s : ℕ) where
  -- An item that starts at E(j) or later is heard at j by its own date.
  pub causal-late : (hear : ℕ → Fate) → R.start j ≤ b + s → missed_fate R causal j b s hear ≡ hear (b + s)
  unfolding missed_fate pick
  causal-late hear l = rw (late-future R j (b + s) l, future-kept R j (b + s) l)

  pub partial-late : (hear : ℕ → Fate) → R.start j ≤ b + s → missed_fate R partial j b s hear ≡ hear (b + s)
  unfolding missed_fate pick
  partial-late hear l = rw (late-future R j (b + s) l, future-kept R j (b + s) l)

  -- An action of a missed causal group that is dated no later than E(j) sounds at once at j, past or within the grace. E(j) finds j itself, where events last at least
  -- a grain.
  pub causal-early : (y : Synchrony) → b + s ≤ R.start j → R.last_before (R.start j) ≡ j → R.became j ≡ heard
      → outcome_of R (missed_fate R causal j b s (heard_fate R y causal j)) ≡ played j 0
  unfolding missed_fate outcome_of pick heard_fate sliced_fate
  causal-early y l found is-heard = go (past R j (b + s)) refl
    where
      now : (y : Synchrony) → heard_fate R y causal j (R.start j) ≡ heard_at j (grains (R.start j))
      now loose = refl
      now tight = rw (found, is-heard)

      go : (v : Bool) → past R j (b + s) ≡ v → outcome_of R (pick v (missed_by j (grains (b + s))) (heard_fate R y causal j (future_date R j (b + s)))) ≡ played j 0
      go true e = ap (played j) (omega arith)
      go false e = rw (future-raised R j (b + s) l, now y) (ap (played j) (omega arith))

-- No event is missed: each is heard, or nothing is heard from it on.
module _ (o p : Terms) (ds D : List ℕ) (some : 1 ≤ length ds) (kept : (k j : ℕ) → Among (length ds) k → taken D k ≡ missed j → ⊥) where
  abbrev R : Reading
  R = reading_of o ds D

  abbrev Q : Reading
  Q = reading_of p ds D

  -- what is heard, or not yet
  Plain : Fate → Type 0
  Plain (heard_at i t) = Unit {0}
  Plain (missed_by j t) = ⊥
  Plain (groups_only j t) = ⊥
  Plain nothing = ⊥
  Plain not_yet = Unit {0}

  PlainHolder : Holder → Type 0
  PlainHolder (heard_group y e i b) = Unit {0}
  PlainHolder (missed_group y e j b) = ⊥
  PlainHolder (missed_top j b) = ⊥
  PlainHolder silent = ⊥
  PlainHolder waiting = Unit {0}

  -- its fate is the same on both terms, and plain
  abbrev Same : (f g : Fate) → Type 0
  Same f g = (f ≡ g) × Plain f

  sliced-same : (e : ErrorWord) (t : ℕ) (a : Taken) → taken D (last_by ds t) ≡ a → Same (sliced_fate R e (last_by ds t) t a) (sliced_fate Q e (last_by ds t) t a)
  unfolding sliced_fate Plain
  sliced-same e t heard h = (refl, tt)
  sliced-same e t (missed j) h = absurd (kept (last_by ds t) j (last_by-some ds t some, last_by-fits ds t) h)
  sliced-same e t unsettled h = (refl, tt)

  heard-same : (y : Synchrony) (e : ErrorWord) (i t : ℕ) → Same (heard_fate R y e i t) (heard_fate Q y e i t)
  unfolding heard_fate reading_of Plain
  heard-same loose e i t = (refl, tt)
  heard-same tight e i t = sliced-same e t _ refl

  fate-same : (h : Holder) (s : ℕ) → PlainHolder h → Same (fate_of R h s) (fate_of Q h s)
  unfolding fate_of PlainHolder Plain
  fate-same (heard_group y e i b) s c = heard-same y e i (b + s)
  fate-same (missed_group y e j b) s c = absurd c
  fate-same (missed_top j b) s c = absurd c
  fate-same silent s c = absurd c
  fate-same waiting s c = (refl, tt)

  enter-plain : (f : Fate) (y : Synchrony) (e : ErrorWord) → Plain f → PlainHolder (enter f y e)
  unfolding enter Plain PlainHolder
  enter-plain (heard_at i t) y e c = tt
  enter-plain (missed_by j t) y e c = absurd c
  enter-plain (groups_only j t) y e c = absurd c
  enter-plain nothing y e c = absurd c
  enter-plain not_yet y e c = tt

  outcome-same : (f : Fate) → outcome_of R f ≡ outcome_of Q f
  unfolding outcome_of reading_of
  outcome-same (heard_at i t) = refl
  outcome-same (missed_by j t) = refl
  outcome-same (groups_only j t) = refl
  outcome-same nothing = refl
  outcome-same not_yet = refl

  run-same : (h : Holder) (s : ℕ) (x : Seq) → PlainHolder h → run R h s x ≡ run Q h s x
  unfolding run
  run-same h s end c = refl
  run-same h s (action d m q x) c = rw ((fate-same h (s + d) c).0, outcome-same (fate_of Q h (s + d)), run-same h (s + d) x c)
  run-same h s (group d y e b x) c =
      let f = fate-same h (s + d) c in
      ap₂ ◌++◌
      (run-same (enter (fate_of R h (s + d)) y e) 0 b (enter-plain _ y e f.1) ∙ ap (λ (z : Fate). run Q (enter z y e) 0 b) f.0)
      (run-same h (s + d) x c)

  top-plain : (i : ℕ) (a : Taken) → taken D i ≡ a → Among (length ds) i → PlainHolder (top_holder R i a)
  unfolding top_holder PlainHolder
  top-plain i heard h c = tt
  top-plain i (missed j) h c = absurd (kept i j c h)
  top-plain i unsettled h c = tt

  perform-same : (i : ℕ) (x : Seq) → Among (length ds) i → perform R i x ≡ perform Q i x
  unfolding perform reading_of top_holder
  perform-same i x c = run-same (top_holder R i (taken D i)) 0 x (top-plain i (taken D i) refl c) ∙ ap (λ (h : Holder). run Q h 0 x) (top-same (taken D i))
    where
      top-same : (a : Taken) → top_holder R i a ≡ top_holder Q i a
      top-same heard = refl
      top-same (missed j) = refl
      top-same unsettled = refl

  -- Where no event is missed, every grace gives the same.
  pub nothing-missed : {es : List Entry} → Within (length ds) es → cues R es ≡ cues Q es
  unfolding cues
  nothing-missed no_entries = refl
  nothing-missed (entry_within {e = e} c w) = ap₂ ◌++◌ (ap (cast e.part) (perform-same e.event e.body c)) (nothing-missed w)
