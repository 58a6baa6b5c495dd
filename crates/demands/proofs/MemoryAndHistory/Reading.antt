-- The words of a session are read as the score under the events heard, so the evaluators give every action of the page what the rules give it.
-- Assumes nothing.
use mathlib.Core.Path.{◌≡◌, ap, sym, ◌∙◌}
use Prim.Native.Nat.{ℕ, suc, ◌+◌, ◌≤◌, ◌<◌}
use mathlib.Core.List.{List}
use native.Mathlib.Omega.{arith}
use lib.ListN.{length}
use lib.Seq.{get_or-take}
use Rattle.page.specs.declared.Item.{Item}
use Rattle.rules.specs.declared.Taken.TheVariants.{Missed as missed}
use Rattle.rules.specs.Heard.{taken}
use Rattle.rules.specs.Score.{last_by}
use Rattle.rules.specs.Rules.{reading_of}
use Rattle.rules.specs.Page.{entries, cues}
use Rattle.rules.specs.Settled.{Below}
use Rattle.rules.proofs.Dates.{last_by-some, last_by-fits}
use Rattle.rules.proofs.HeardLaws.{below_up, next-after, next-below}
use Rattle.rules.proofs.Readings.{Among, Agree, Within, cues-agree}
use Rattle.fates.specs.Fields.{taken_in}
use Rattle.fates.specs.Places.{became_in, last_in, reading_in, items_in}
use Rattle.fates.proofs.LastLaws.{last-in}
use Rattle.rules.specs.Terms.{Terms}
use Rattle.session.specs.Layout.{taken_at, outcomes_at, places_of}
use Rattle.demands.proofs.MemoryAndHistory.Taken.{EventsSettled}
use Rattle.demands.proofs.MemoryAndHistory.Holds.{Score}

module _ {ds : List ℕ} {is : List Item} {o : Terms} {last : ℕ} {D m : List ℕ} (some : 1 ≤ length ds) (events : length ds ≤ 256) (score : Score ds is o m)
    (settled : EventsSettled (length ds) last D m) (fits : last ≤ length ds) where
  heard-fit : Below (suc (length ds)) D
  heard-fit = below_up (suc last) (suc (length ds)) (omega arith) settled.below

  last-agrees : (t : ℕ) → last_in (places_of m) m t ≡ last_by ds t
  last-agrees t = last-in (places_of m) m ds t (sym score.events) (omega (arith, score.events)) (omega (arith, score.events)) score.starts

  became-agrees : (k : ℕ) → Among (length ds) k → became_in (places_of m) m k ≡ taken D k
  unfolding became_in
  became-agrees k p = ap (taken_in k) (get_or-take outcomes_at m (taken_at + k) 0 (omega arith)) ∙ settled.words k p.0 p.1

  last-among : (t : ℕ) → Among (length ds) (last_in (places_of m) m t)
  last-among t = rw (last-agrees t) (last_by-some ds t some, last_by-fits ds t)

  next-among : (k j : ℕ) → Among (length ds) k → became_in (places_of m) m k ≡ missed j → Among (length ds) j
  next-among k j p e =
      let q : taken D k ≡ missed j = sym (became-agrees k p) ∙ e in
      let a : k < j = next-after D k j q in
      let b : j < suc (length ds) = next-below (suc (length ds)) k j heard-fit q in
      (omega arith, omega arith)

  agrees : Agree (length ds) (reading_in (places_of m) m) (reading_of o ds D)
  unfolding reading_in reading_of
  agrees = record { start = λ k p. score.starts k p.0 p.1; last_before = last-agrees; became = became-agrees; grace = score.grace; fits = last-among; next = next-among }

  pub session-cues : Within (length ds) (entries is) → cues (reading_in (places_of m) m) (entries (items_in (places_of m) m)) ≡ cues (reading_of o ds D) (entries is)
  session-cues w = rw score.page (cues-agree (length ds) (reading_in (places_of m) m) (reading_of o ds D) agrees w)
