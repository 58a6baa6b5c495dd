-- The word for an outcome, fate by fate.
-- Assumes nothing.
use mathlib.Core.Path.{◌≡◌, ap}
use mathlib.Core.List.{List}
use Prim.Native.Nat.{ℕ, ◌+◌, ◌-◌, ◌^◌, ◌≤◌}
use native.Mathlib.Omega.{arith}
use lib.ListN.{set}
use borrow.Author.Rules.{rules}
use mir.Syntax.{w64}
use mir.Val.{Fits}
use Rattle.units.specs.declared.Grains.{Grains}
use Rattle.rules.specs.declared.Fate.{Fate}
use Rattle.rules.specs.declared.Fate.TheVariants.{HeardAt as heard_at, MissedBy as missed_by, GroupsOnly as groups_only, Nothing as nothing, NotYet as not_yet}
use Rattle.rules.specs.Rules.{outcome_of}
use Rattle.fates.specs.declared.Places.{Places}
use Rattle.fates.specs.Fields.{outcome_word}
use Rattle.fates.specs.Places.{reading_in}
use Rattle.fates.specs.Fates.{event_of, date_of, FateBounded}

module _ (t : Places) (m : List ℕ) (f : Fate) (i : ℕ) (d : Grains) (start rest : ℕ) (q : start ≡ (reading_in t m).start i) (r : rest ≡ d.0 - start) where
  pub word-heard : f ≡ heard_at i d → 2 + rest ≡ outcome_word (outcome_of (reading_in t m) f)
  unfolding outcome_of outcome_word
  word-heard e = rw (e, ← q, r)

  pub word-missed : f ≡ missed_by i d → 2 + rest ≡ outcome_word (outcome_of (reading_in t m) f)
  unfolding outcome_of outcome_word
  word-missed e = rw (e, ← q, r)

module _ (t : Places) (m : List ℕ) (f : Fate) where
  pub word-groups : (j : ℕ) (d : Grains) → f ≡ groups_only j d → 1 ≡ outcome_word (outcome_of (reading_in t m) f)
  unfolding outcome_of outcome_word
  word-groups j d e = rw e

  pub word-nothing : f ≡ nothing → 1 ≡ outcome_word (outcome_of (reading_in t m) f)
  unfolding outcome_of outcome_word
  word-nothing e = rw e

  pub word-not-yet : f ≡ not_yet → 0 ≡ outcome_word (outcome_of (reading_in t m) f)
  unfolding outcome_of outcome_word
  word-not-yet e = rw e

-- where a fate is known, so are its event and its date
module _ (f : Fate) (n j : ℕ) (d : Grains) (b : FateBounded f n) where
  pub heard-event : f ≡ heard_at j d → j ≤ 256
  unfolding event_of
  heard-event e = rw e at b.event

  pub heard-date : f ≡ heard_at j d → d.0 ≤ n
  unfolding date_of
  heard-date e = rw e at b.date

  pub missed-event : f ≡ missed_by j d → j ≤ 256
  unfolding event_of
  missed-event e = rw e at b.event

  pub missed-date : f ≡ missed_by j d → d.0 ≤ n
  unfolding date_of
  missed-date e = rw e at b.date

  pub groups-event : f ≡ groups_only j d → j ≤ 256
  unfolding event_of
  groups-event e = rw e at b.event

  pub groups-date : f ≡ groups_only j d → d.0 ≤ n
  unfolding date_of
  groups-date e = rw e at b.date

-- a word for an outcome fits
module _ (f : Fate) (j rest start : ℕ) (d : Grains) (b : FateBounded f (2 ^ 50)) (r : rest ≡ d.0 - start) where
  pub word-heard-fits : f ≡ heard_at j d → Fits w64 (2 + rest)
  word-heard-fits e = record { fits = omega (arith, heard-date f (2 ^ 50) j d b e) }

  pub word-missed-fits : f ≡ missed_by j d → Fits w64 (2 + rest)
  word-missed-fits e = record { fits = omega (arith, missed-date f (2 ^ 50) j d b e) }

pub outcome-left : (t : Places) (m : List ℕ) (f : Fate) (p v : ℕ) → v ≡ outcome_word (outcome_of (reading_in t m) f) → set m p v ≡ set m p (outcome_word (outcome_of (reading_in t m) f))
outcome-left t m f p v e = ap (set m p) e

pub ruleset outcomes = (word-heard, word-missed, word-groups, word-nothing, word-not-yet, word-heard-fits, word-missed-fits, heard-event, missed-event, rules)
