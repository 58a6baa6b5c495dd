-- The steps of the walks: one item that has run, whatever held it, leaves what follows it, and each case of one item.
-- Assumes nothing.
use mathlib.Core.Path.{◌≡◌, refl, sym, ap, ◌∙◌}
use mathlib.Core.Bool.{Bool, true, false}
use mathlib.Core.List.{List, ◌++◌}
use Prim.Native.Nat.{ℕ, zero, suc, ◌+◌, ◌-◌, ◌^◌, ◌≤◌, ◌<◌, min}
use native.Mathlib.Omega.{arith}
use lib.Dec.{eqb}
use lib.ListN.{length, get_or, set}
use borrow.Author.Tests.{eq-eqb, ne_eqb, eqb-true, eqb-false}
use borrow.Author.Rules.{rules}
use Rattle.units.specs.declared.Grains.{Grains}
use Rattle.page.specs.declared.Item.{Item}
use Rattle.base.specs.Tests.{pick}
use Rattle.rules.specs.declared.Synchrony.{Synchrony}
use Rattle.rules.specs.declared.Synchrony.TheVariants.{Loose as loose}
use Rattle.rules.specs.declared.ErrorWord.{ErrorWord}
use Rattle.rules.specs.declared.ErrorWord.TheVariants.{Local as local}
use Rattle.rules.specs.declared.Fate.{Fate}
use Rattle.rules.specs.declared.Fate.TheVariants.{HeardAt as heard_at, MissedBy as missed_by, GroupsOnly as groups_only, Nothing as nothing, NotYet as not_yet}
use Rattle.rules.specs.Words.{synchrony_of, error_of}
use Rattle.rules.specs.Rules.{Reading, grains, missed_fate, heard_fate, Holder, heard_group, missed_group, missed_top, silent, waiting, fate_of, outcome_of, enter, Line, run}
use Rattle.rules.proofs.Sift.{run-alike}
use Rattle.fates.specs.declared.Places.{Places}
use Rattle.fates.specs.Fields.{item_in, outcome_word}
use Rattle.fates.specs.Places.{reading_in}
use Rattle.fates.specs.Fates.{event_of, date_of, FateBounded}
use Rattle.evaluators.specs.Inner.{latest_at, item_word_at, Lent, Dated, sequence_in, span_of, write_lines, owed, first_lines, Stepped, still}
use Rattle.fates.proofs.OutcomeLaws.{heard-event, heard-date, missed-event, missed-date, groups-event, groups-date}
use Rattle.evaluators.proofs.SequenceLaws.{body_in, sequence-none, sequence-action, sequence-group}
use Rattle.evaluators.proofs.FrameLaws.{writes-append, reading-kept, sequence-kept, writes-length, word_read}

-- ---- a body, item by item

-- the first item, and what follows it
run-first : (t : Places) (m : List ℕ) (h : Holder) (s v p count : ℕ) (x : Item) (r : ℕ) → Lent t m p count → 0 < count → x ≡ item_in (item_word_at t m p) → r ≡ span_of x count
    → run (reading_in t m) h s (sequence_in t m v p count)
    ≡ first_lines (reading_in t m) (fate_of (reading_in t m) h (s + x.delay.0)) (sequence_in t m v p count)
    ++ run (reading_in t m) h (s + x.delay.0) (sequence_in t m v (p + r) (count - r))
unfolding run first_lines span_of pick
run-first t m h s v p count x r lent some is er = go (eqb x.kind 0) refl
  where
    go : (b : Bool) → eqb x.kind 0 ≡ b
        → run (reading_in t m) h s (sequence_in t m v p count)
        ≡ first_lines (reading_in t m) (fate_of (reading_in t m) h (s + x.delay.0)) (sequence_in t m v p count)
        ++ run (reading_in t m) h (s + x.delay.0) (sequence_in t m v (p + r) (count - r))
    go true b =
        let q : r ≡ 1 = rw b at er in
        rw (q, sequence-action t m v p count lent some x is (eqb-true _ 0 b))
    go false b =
        let q : r ≡ min x.last (count - 1) + 1 = rw b at er in
        rw (q, sequence-group t m v p count lent some x is (min x.last (count - 1)) (eqb-false _ 0 b) refl)

module _ (t : Places) (m m' W : List ℕ) (s v p count r : ℕ) (d : Grains) (f : Fate) (lent : Lent t m p count) (some : 0 < count) (is : d ≡ (item_in (get_or m (t.items + p) 0)).delay) (did : Stepped t f m v p count r m') where
  -- what is owed after an item is what was owed before it
  step : (h : Holder) → f ≡ fate_of (reading_in t m) h (s + d.0) → owed t h s m v p count ≡ W → owed t h (s + d.0) m' v (p + r) (count - r) ≡ W
  unfolding owed
  step h ef q =
      let e : d ≡ (item_in (item_word_at t m p)).delay = is ∙ ap (λ (w : ℕ). (item_in w).delay) (word_read t m p count lent some) in
      rw (reading-kept t _ m m' did.words, sequence-kept t _ m m' did.words, did.words, ef, e)
      (sym (writes-append t.outcomes _ _ m)
      ∙ ap (λ (l : List Line). write_lines t.outcomes l m) (sym (run-first t m h s v p count (item_in (item_word_at t m p)) r lent some refl did.span))
      ∙ q)

  pub missed-step : (y : Synchrony) (e : ErrorWord) (j b : ℕ) → f ≡ missed_fate (reading_in t m) e j b (s + d.0) (heard_fate (reading_in t m) y e j)
      → owed t (missed_group y e j b) s m v p count ≡ W
      → owed t (missed_group y e j b) (s + d.0) m' v (p + r) (count - r) ≡ W
  unfolding fate_of
  missed-step y e j b ef q = step (missed_group y e j b) ef q

-- the same of a walk that keeps the date of the item, and not what is past of it since its holder's
module _ (t : Places) (m m' W : List ℕ) (b date v p count r : ℕ) (d : Grains) (f : Fate) (late : b ≤ date) (lent : Lent t m p count) (some : 0 < count) (is : d ≡ (item_in (get_or m (t.items + p) 0)).delay) (did : Stepped t f m v p count r m') where
  pub heard-step : (y : Synchrony) (e : ErrorWord) (i : ℕ) → f ≡ heard_fate (reading_in t m) y e i (date + d.0)
      → owed t (heard_group y e i b) (date - b) m v p count ≡ W
      → owed t (heard_group y e i b) (date + d.0 - b) m' v (p + r) (count - r) ≡ W
  unfolding fate_of
  heard-step y e i ef q =
      let back : date - b + d.0 ≡ date + d.0 - b = omega arith in
      let on : b + (date - b + d.0) ≡ date + d.0 = omega arith in
      rw back at (step t m m' W (date - b) v p count r d f lent some is did (heard_group y e i b) (rw on ef) q)

  pub top-step : (j : ℕ) → f ≡ missed_by j (grains (date + d.0))
      → owed t (missed_top j b) (date - b) m v p count ≡ W
      → owed t (missed_top j b) (date + d.0 - b) m' v (p + r) (count - r) ≡ W
  unfolding fate_of
  top-step j ef q =
      let back : date - b + d.0 ≡ date + d.0 - b = omega arith in
      let on : b + (date - b + d.0) ≡ date + d.0 = omega arith in
      rw back at (step t m m' W (date - b) v p count r d f lent some is did (missed_top j b) (rw on ef) q)

-- such a walk begins at its holder's date
pub walk_begins : (t : Places) (h : Holder) (b : ℕ) (m : List ℕ) (v p count : ℕ) → owed t h (b - b) m v p count ≡ owed t h 0 m v p count
walk_begins t h b m v p count = let z : b - b ≡ 0 = omega arith in rw z

-- where nothing is played, no date counts
still-any : (t : Places) (f : Fate) (s k : ℕ) (m : List ℕ) (v p count : ℕ) → still f ≡ true → owed t (enter f loose local) s m v p count ≡ owed t (enter f loose local) k m v p count
unfolding still enter owed fate_of
still-any t (heard_at i d) s k m v p count h = let z : ◌≡◌ {A = ℕ} 0 1 = cc in absurd (omega arith)
still-any t (missed_by j d) s k m v p count h = let z : ◌≡◌ {A = ℕ} 0 1 = cc in absurd (omega arith)
still-any t (groups_only j d) s k m v p count h = let z : ◌≡◌ {A = ℕ} 0 1 = cc in absurd (omega arith)
still-any t nothing s k m v p count h = ap (λ (l : List Line). write_lines t.outcomes l m) (run-alike (reading_in t m) silent silent s k (sequence_in t m v p count) (λ n. refl))
still-any t not_yet s k m v p count h = ap (λ (l : List Line). write_lines t.outcomes l m) (run-alike (reading_in t m) waiting waiting s k (sequence_in t m v p count) (λ n. refl))

still-same : (R : Reading) (f : Fate) (s : ℕ) → still f ≡ true → f ≡ fate_of R (enter f loose local) s
unfolding still enter fate_of
still-same R (heard_at i d) s h = let z : ◌≡◌ {A = ℕ} 0 1 = cc in absurd (omega arith)
still-same R (missed_by j d) s h = let z : ◌≡◌ {A = ℕ} 0 1 = cc in absurd (omega arith)
still-same R (groups_only j d) s h = let z : ◌≡◌ {A = ℕ} 0 1 = cc in absurd (omega arith)
still-same R nothing s h = refl
still-same R not_yet s h = refl

pub still-step : (t : Places) (m m' W : List ℕ) (v p count r : ℕ) (f : Fate) → Lent t m p count → 0 < count → Stepped t f m v p count r m' → still f ≡ true
    → owed t (enter f loose local) 0 m v p count ≡ W
    → owed t (enter f loose local) 0 m' v (p + r) (count - r) ≡ W
still-step t m m' W v p count r f lent some did h q =
    let d = (item_in (get_or m (t.items + p) 0)).delay in
    still-any t f 0 (0 + d.0) m' v (p + r) (count - r) h
    ∙ step t m m' W 0 v p count r d f lent some refl did (enter f loose local) (still-same (reading_in t m) f (0 + d.0) h) q

pub walk_ends : (t : Places) (h : Holder) (s : ℕ) (m W : List ℕ) (v p count : ℕ) → count ≤ 0 → owed t h s m v p count ≡ W → m ≡ W
unfolding owed run write_lines
walk_ends t h s m W v p count z q = rw (sequence-none t m v p count z) at q

-- ---- one item

body-entered : (t : Places) (m : List ℕ) (v p n : ℕ) → (v ≡ 0 → ⊥) → body_in t m v p n ≡ sequence_in t m (v - 1) p n
unfolding body_in
body-entered t m zero p n h = absurd (h refl)
body-entered t m (suc v) p n h = let e : suc v - 1 ≡ v = omega arith in rw e

module _ (t : Places) (m m' : List ℕ) (f : Fate) (v p count w : ℕ) (x : Item) (lent : Lent t m p count) (some : 0 < count) (ew : w ≡ item_word_at t m p) (is : x ≡ item_in w) where
  the_word : x ≡ item_in (item_word_at t m p)
  the_word = is ∙ ap item_in ew

  pub item-action : x.kind ≡ 0 → m' ≡ set m (t.outcomes + p) (outcome_word (outcome_of (reading_in t m) f)) → Stepped t f m v p count 1 m'
  unfolding first_lines write_lines span_of pick
  item-action k em =
      record {
        some = omega arith;
        within = omega arith;
        span = rw (← the_word, eq-eqb x.kind 0 k);
        words = rw (sequence-action t m v p count lent some x the_word k) em;
      }

  module _ (n : ℕ) (k : x.kind ≡ 0 → ⊥) (en : n ≡ min x.last (count - 1)) where
    group-span : n + 1 ≡ span_of (item_in (item_word_at t m p)) count
    unfolding span_of pick
    group-span = rw (← the_word, ne_eqb x.kind 0 k, en)

    pub item-deep : v ≡ 0 → Stepped t f m v p count (n + 1) m
    unfolding first_lines run write_lines body_in
    item-deep z =
        record {
          some = omega arith;
          within = omega arith;
          span = group-span;
          words = rw (sequence-group t m v p count lent some x the_word n k en, z);
        }

    module _ (y : Synchrony) (e : ErrorWord) (ey : y ≡ synchrony_of x.synchrony) (ee : e ≡ error_of x.error) (enters : v ≡ 0 → ⊥) where
      pub item-group : m' ≡ owed t (enter f y e) 0 m (v - 1) (p + 1) n → Stepped t f m v p count (n + 1) m'
      unfolding first_lines owed
      item-group em =
          record {
            some = omega arith;
            within = omega arith;
            span = group-span;
            words = rw (sequence-group t m v p count lent some x the_word n k en, ← ey, ← ee, body-entered t m v (p + 1) n enters) em;
          }

-- ---- a group's body, by the group's fate

module _ (t : Places) (m m' : List ℕ) (f : Fate) (v p count : ℕ) (y : Synchrony) (e : ErrorWord) where
  pub within-heard : (i : ℕ) (d : Grains) → f ≡ heard_at i d → m' ≡ owed t (heard_group y e i d.0) 0 m v p count → m' ≡ owed t (enter f y e) 0 m v p count
  unfolding enter
  within-heard i d q em = rw q em

  pub within-missed : (j : ℕ) (d : Grains) → f ≡ missed_by j d → m' ≡ owed t (missed_group y e j d.0) 0 m v p count → m' ≡ owed t (enter f y e) 0 m v p count
  unfolding enter
  within-missed j d q em = rw q em

  pub within-groups : (j : ℕ) (d : Grains) → f ≡ groups_only j d → m' ≡ owed t (missed_group y e j d.0) 0 m v p count → m' ≡ owed t (enter f y e) 0 m v p count
  unfolding enter
  within-groups j d q em = rw q em

  pub within-silent : f ≡ nothing → m' ≡ owed t (enter f loose local) 0 m v p count → m' ≡ owed t (enter f y e) 0 m v p count
  unfolding enter
  within-silent q em = rw q (rw q at em)

  pub within-waiting : f ≡ not_yet → m' ≡ owed t (enter f loose local) 0 m v p count → m' ≡ owed t (enter f y e) 0 m v p count
  unfolding enter
  within-waiting q em = rw q (rw q at em)

pub still-silent : (f : Fate) → f ≡ nothing → still f ≡ true
unfolding still
still-silent f q = rw q

pub still-waiting : (f : Fate) → f ≡ not_yet → still f ≡ true
unfolding still
still-waiting f q = rw q

-- ---- what is lent, and bounds

pub lent-on : (t : Places) (m m' : List ℕ) (f : Fate) (v p count r : ℕ) → Lent t m p count → Stepped t f m v p count r m' → Lent t m' (p + r) (count - r)
lent-on t m m' f v p count r lent did =
    let e : length m' ≡ length m = ap length did.words ∙ writes-length t.outcomes _ m in
    record { places = rw e lent.places; fits = omega arith }

pub lent-within : (t : Places) (m : List ℕ) (p count last n : ℕ) → Lent t m p count → 0 < count → n ≡ min last (count - 1) → Lent t m (p + 1) n
lent-within t m p count last n lent some en = record { places = lent.places; fits = omega arith }

pub heard-bounded : (f : Fate) (date d p : ℕ) → date ≤ latest_at p → d < 8388608 → FateBounded f (date + d + 2 ^ 32) → FateBounded f (latest_at (p + 1))
heard-bounded f date d p early small h = record { event = h.event; date = omega arith }

pub missed-bounded : (f : Fate) (b s d p : ℕ) → b + s ≤ latest_at p → d < 8388608 → FateBounded f (b + (s + d) + 2 ^ 31 + 2 ^ 32) → FateBounded f (latest_at (p + 1))
missed-bounded f b s d p early small h = record { event = h.event; date = omega arith }

pub top-bounded : (j date d p : ℕ) → date ≤ latest_at p → d < 8388608 → j ≤ 256 → FateBounded (missed_by j (grains (date + d))) (latest_at (p + 1))
unfolding event_of date_of
top-bounded j date d p early small few = record { event = few; date = omega arith }

pub still-bounded : (f : Fate) (n : ℕ) → still f ≡ true → FateBounded f n
unfolding still event_of date_of
still-bounded (heard_at i d) n h = let z : ◌≡◌ {A = ℕ} 0 1 = cc in absurd (omega arith)
still-bounded (missed_by j d) n h = let z : ◌≡◌ {A = ℕ} 0 1 = cc in absurd (omega arith)
still-bounded (groups_only j d) n h = let z : ◌≡◌ {A = ℕ} 0 1 = cc in absurd (omega arith)
still-bounded nothing n h = record { event = omega arith; date = omega arith }
still-bounded not_yet n h = record { event = omega arith; date = omega arith }

pub word-bounded : (t : Places) (m : List ℕ) (f : Fate) (p count : ℕ) → Lent t m p count → 0 < count → FateBounded f (latest_at (p + 1)) → FateBounded f (2 ^ 50)
word-bounded t m f p count lent some h = record { event = h.event; date = omega (arith, lent.places.page) }

pub place_inside : (t : Places) (m : List ℕ) (p count : ℕ) → Lent t m p count → 0 < count → p < t.size
place_inside t m p count lent some = omega arith

-- the date of a fate that is known
module _ (f : Fate) (p j : ℕ) (d : Grains) (b : FateBounded f (latest_at p)) where
  pub dated-heard : f ≡ heard_at j d → Dated j d.0 p
  dated-heard e = record { event = heard-event f (latest_at p) j d b e; date = heard-date f (latest_at p) j d b e }

  pub dated-missed : f ≡ missed_by j d → Dated j d.0 p
  dated-missed e = record { event = missed-event f (latest_at p) j d b e; date = missed-date f (latest_at p) j d b e }

  pub dated-groups : f ≡ groups_only j d → Dated j d.0 p
  dated-groups e = record { event = groups-event f (latest_at p) j d b e; date = groups-date f (latest_at p) j d b e }

pub ruleset bodies = (walk_begins, walk_ends, heard-step, missed-step, top-step, still-step, word_read, lent-on, heard-bounded, missed-bounded, top-bounded, still-bounded, rules)

pub ruleset items = (item-action, item-deep, item-group, word-bounded, place_inside, lent-within, rules)

pub ruleset fates = (within-heard, within-missed, within-groups, within-silent, within-waiting, still-silent, still-waiting, dated-heard, dated-missed, dated-groups, rules)
