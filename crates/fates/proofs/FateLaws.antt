-- The fate of an item, case by case as the code tells the cases, and bounds on it.
-- Assumes nothing.
use mathlib.Core.Path.{◌≡◌, refl, sym, ap, ◌∙◌}
use mathlib.Core.Bool.{Bool, true, false}
use mathlib.Core.List.{List}
use Prim.Native.Nat.{ℕ, ◌+◌, ◌-◌, ◌^◌, ◌≤◌, ◌<◌}
use native.Mathlib.Omega.{arith}
use lib.Dec.{ltb}
use borrow.Author.Rules.{rules}
use Rattle.units.specs.declared.Grains.{Grains}
use Rattle.base.specs.Tests.{pick}
use Rattle.rules.specs.declared.Synchrony.{Synchrony}
use Rattle.rules.specs.declared.Synchrony.TheVariants.{Loose as loose, Tight as tight}
use Rattle.rules.specs.declared.ErrorWord.{ErrorWord}
use Rattle.rules.specs.declared.ErrorWord.TheVariants.{Local as local, Global as global, Partial as partial, Causal as causal}
use Rattle.rules.specs.declared.Taken.{Taken}
use Rattle.rules.specs.declared.Taken.TheVariants.{Heard as heard, Missed as missed, Unsettled as unsettled}
use Rattle.rules.specs.declared.Fate.{Fate}
use Rattle.rules.specs.declared.Fate.TheVariants.{HeardAt as heard_at, MissedBy as missed_by, GroupsOnly as groups_only, Nothing as nothing, NotYet as not_yet}
use Rattle.rules.specs.Rules.{Reading, grains, past, future_date, global_start, loosely, missed_fate, sliced_fate, heard_fate}
use Rattle.fates.specs.declared.Places.{Places}
use Rattle.fates.specs.Places.{reading_in}
use Rattle.fates.specs.Fates.{event_of, date_of, FateBounded}
use Rattle.fates.proofs.ReadLaws.{next-of}
use Rattle.fates.proofs.OutcomeLaws.{heard-date}

module _ (t : Places) (m : List ℕ) (j d s : ℕ) (is : s ≡ (reading_in t m).start j) where
  pub past_is : ltb (d + t.grace.0) s ≡ past (reading_in t m) j d
  unfolding past reading_in
  past_is = rw is

-- A missed global group starts where a future item does.
pub global-start-is : (t : Places) (m : List ℕ) (j d s : ℕ) → s ≡ future_date (reading_in t m) j d → s ≡ global_start (reading_in t m) j d
unfolding future_date global_start
global-start-is t m j d s is = is

-- ---- the four error words

module _ (t : Places) (m : List ℕ) (e : ErrorWord) (j b s : ℕ) where
  pub loosely-local : e ≡ local → nothing ≡ missed_fate (reading_in t m) e j b s (loosely j)
  unfolding missed_fate
  loosely-local p = rw p

  pub loosely-global : (g : ℕ) → e ≡ global → g ≡ global_start (reading_in t m) j b → heard_at j (grains (g + s)) ≡ missed_fate (reading_in t m) e j b s (loosely j)
  unfolding missed_fate
  loosely-global g p q = rw (p, ← q)

  module _ (x : Bool) (is : x ≡ past (reading_in t m) j (b + s)) where
    pub partial-past : e ≡ partial → x ≡ true → groups_only j (grains (b + s)) ≡ missed_fate (reading_in t m) e j b s (loosely j)
    unfolding missed_fate pick
    partial-past p h = rw (p, ← is, h)

    pub partial-future : (d : Grains) → e ≡ partial → x ≡ false → d.0 ≡ future_date (reading_in t m) j (b + s) → heard_at j d ≡ missed_fate (reading_in t m) e j b s (loosely j)
    unfolding missed_fate pick
    partial-future d p h q = rw (p, ← is, h, ← q)

    pub causal-past : e ≡ causal → x ≡ true → missed_by j (grains (b + s)) ≡ missed_fate (reading_in t m) e j b s (loosely j)
    unfolding missed_fate pick
    causal-past p h = rw (p, ← is, h)

    pub causal-future : (d : Grains) → e ≡ causal → x ≡ false → d.0 ≡ future_date (reading_in t m) j (b + s) → heard_at j d ≡ missed_fate (reading_in t m) e j b s (loosely j)
    unfolding missed_fate pick
    causal-future d p h q = rw (p, ← is, h, ← q)

pub nothing-bounded : (n : ℕ) → FateBounded nothing n
unfolding event_of date_of
nothing-bounded n = record { event = omega arith; date = omega arith }

pub not-yet-bounded : (n : ℕ) → FateBounded not_yet n
unfolding event_of date_of
not-yet-bounded n = record { event = omega arith; date = omega arith }

module _ (j b s : ℕ) (few : j ≤ 256) where
  pub global-bounded : (g : ℕ) → g ≤ b + 2 ^ 31 → FateBounded (heard_at j (grains (g + s))) (b + s + 2 ^ 31)
  unfolding event_of date_of
  global-bounded g h = record { event = few; date = omega arith }

  pub future-bounded : (d : Grains) → d.0 ≤ b + s + 2 ^ 31 → FateBounded (heard_at j d) (b + s + 2 ^ 31)
  unfolding event_of date_of
  future-bounded d h = record { event = few; date = omega arith }

  pub past-bounded : FateBounded (missed_by j (grains (b + s))) (b + s + 2 ^ 31)
  unfolding event_of date_of
  past-bounded = record { event = few; date = omega arith }

  pub groups-bounded : FateBounded (groups_only j (grains (b + s))) (b + s + 2 ^ 31)
  unfolding event_of date_of
  groups-bounded = record { event = few; date = omega arith }

pub ruleset error-words =
    (loosely-local, loosely-global, partial-past, partial-future, causal-past, causal-future, nothing-bounded, global-bounded, future-bounded, past-bounded, groups-bounded, rules)

-- ---- a slice

module _ (t : Places) (m : List ℕ) (e : ErrorWord) (k : ℕ) (d : Grains) (a : Taken) (is : a ≡ (reading_in t m).became k) where
  pub slice-heard : a ≡ heard → heard_at k d ≡ sliced_fate (reading_in t m) e k d.0 ((reading_in t m).became k)
  unfolding sliced_fate
  slice-heard p = rw (← is, p)

  pub slice-missed : (j own s : ℕ) (f : Fate) → a ≡ missed j → own ≡ (reading_in t m).start k → s ≡ d.0 - own → f ≡ missed_fate (reading_in t m) e j own s (loosely j)
      → f ≡ sliced_fate (reading_in t m) e k d.0 ((reading_in t m).became k)
  unfolding sliced_fate
  slice-missed j own s f p q r h = rw (← is, p, ← q, ← r) h

  pub slice-unsettled : a ≡ unsettled → not_yet ≡ sliced_fate (reading_in t m) e k d.0 ((reading_in t m).became k)
  unfolding sliced_fate
  slice-unsettled p = rw (← is, p)

pub slice-bounded : (k : ℕ) (d : Grains) → k ≤ 256 → FateBounded (heard_at k d) (d.0 + 2 ^ 32)
unfolding event_of date_of
slice-bounded k d h = record { event = h; date = omega arith }

pub slice-missed-bounded : (f : Fate) (own s : ℕ) (d : Grains) → own < 2 ^ 31 → s ≡ d.0 - own → FateBounded f (own + s + 2 ^ 31) → FateBounded f (d.0 + 2 ^ 32)
slice-missed-bounded f own s d h r b = record { event = b.event; date = omega arith }

pub ruleset slices = (slice-heard, slice-missed, slice-unsettled, slice-bounded, slice-missed-bounded, not-yet-bounded, next-of, rules)

-- ---- a heard group

module _ (t : Places) (m : List ℕ) (y : Synchrony) (e : ErrorWord) (i : ℕ) (d : Grains) where
  pub fate-loose : y ≡ loose → heard_at i d ≡ heard_fate (reading_in t m) y e i d.0
  unfolding heard_fate
  fate-loose p = rw p

  pub fate-tight : (k : ℕ) (f : Fate) → y ≡ tight → k ≡ (reading_in t m).last_before d.0 → f ≡ sliced_fate (reading_in t m) e k d.0 ((reading_in t m).became k)
      → f ≡ heard_fate (reading_in t m) y e i d.0
  unfolding heard_fate
  fate-tight k f p q h = rw (p, ← q) h

pub ruleset heard-fates = (fate-loose, fate-tight, slice-bounded, rules)

-- ---- a missed group

-- a fate of a loose group, and the group heard otherwise
turned : Fate → (ℕ → Fate) → Fate
turned (heard_at i d) hear = hear d.0
turned (missed_by j d) hear = missed_by j d
turned (groups_only j d) hear = groups_only j d
turned nothing hear = nothing
turned not_yet hear = not_yet

turned-past : (x : Bool) (f : Fate) (j d : ℕ) (hear : ℕ → Fate) → turned f hear ≡ f → pick x f (hear d) ≡ turned (pick x f (loosely j d)) hear
unfolding pick turned
turned-past true f j d hear h = sym h
turned-past false f j d hear h = refl

missed-turned : (R : Reading) (e : ErrorWord) (j b s : ℕ) (hear : ℕ → Fate) → missed_fate R e j b s hear ≡ turned (missed_fate R e j b s (loosely j)) hear
unfolding missed_fate turned
missed-turned R local j b s hear = refl
missed-turned R global j b s hear = refl
missed-turned R partial j b s hear = turned-past (past R j (b + s)) (groups_only j (grains (b + s))) j (future_date R j (b + s)) hear refl
missed-turned R causal j b s hear = turned-past (past R j (b + s)) (missed_by j (grains (b + s))) j (future_date R j (b + s)) hear refl

module _ (t : Places) (m : List ℕ) (y : Synchrony) (e : ErrorWord) (j b s : ℕ) (f : Fate) (is : f ≡ missed_fate (reading_in t m) e j b s (loosely j)) where
  turn : (r : Fate) → r ≡ turned f (heard_fate (reading_in t m) y e j) → r ≡ missed_fate (reading_in t m) e j b s (heard_fate (reading_in t m) y e j)
  turn r h = h ∙ ap (λ (g : Fate). turned g (heard_fate (reading_in t m) y e j)) is ∙ sym (missed-turned (reading_in t m) e j b s (heard_fate (reading_in t m) y e j))

  pub turn-heard : (i : ℕ) (d : Grains) (r : Fate) → f ≡ heard_at i d → r ≡ heard_fate (reading_in t m) y e j d.0 → r ≡ missed_fate (reading_in t m) e j b s (heard_fate (reading_in t m) y e j)
  unfolding turned
  turn-heard i d r p h = turn r (rw p h)

  pub turn-missed : (i : ℕ) (d : Grains) → f ≡ missed_by i d → f ≡ missed_fate (reading_in t m) e j b s (heard_fate (reading_in t m) y e j)
  unfolding turned
  turn-missed i d p = turn f (rw p)

  pub turn-groups : (i : ℕ) (d : Grains) → f ≡ groups_only i d → f ≡ missed_fate (reading_in t m) e j b s (heard_fate (reading_in t m) y e j)
  unfolding turned
  turn-groups i d p = turn f (rw p)

  pub turn-nothing : f ≡ nothing → f ≡ missed_fate (reading_in t m) e j b s (heard_fate (reading_in t m) y e j)
  unfolding turned
  turn-nothing p = turn f (rw p)

  pub turn-not-yet : f ≡ not_yet → f ≡ missed_fate (reading_in t m) e j b s (heard_fate (reading_in t m) y e j)
  unfolding turned
  turn-not-yet p = turn f (rw p)

pub turn-bounded : (f : Fate) (b s : ℕ) → FateBounded f (b + s + 2 ^ 31) → FateBounded f (b + s + 2 ^ 31 + 2 ^ 32)
turn-bounded f b s h = record { event = h.event; date = omega arith }

module _ (f : Fate) (b s i : ℕ) (d : Grains) (h : FateBounded f (b + s + 2 ^ 31)) (e : f ≡ heard_at i d) where
  pub turn-date : b < 2 ^ 45 → s < 2 ^ 45 → d.0 < 2 ^ 50
  turn-date p q = omega (arith, heard-date f (b + s + 2 ^ 31) i d h e)

  pub turn-heard-bounded : (r : Fate) → FateBounded r (d.0 + 2 ^ 32) → FateBounded r (b + s + 2 ^ 31 + 2 ^ 32)
  turn-heard-bounded r k = record { event = k.event; date = omega (arith, heard-date f (b + s + 2 ^ 31) i d h e) }

pub ruleset missed-fates = (turn-heard, turn-missed, turn-groups, turn-nothing, turn-not-yet, turn-bounded, turn-date, turn-heard-bounded, rules)
