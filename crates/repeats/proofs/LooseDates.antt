-- Where a loop's group is heard loosely, pass n's actions are dated n periods after those of pass 0, and so are they played; a curve's values are a step apart.
-- Assumes nothing.
use mathlib.Core.Path.{◌≡◌, refl, sym, ap, ◌∙◌}
use mathlib.Core.List.{List, map, map-append}
use Prim.Native.Nat.{ℕ, ◌+◌, ◌-◌, ◌*◌, ◌≤◌}
use native.Mathlib.Nat.{zero-mul}
use native.Mathlib.Omega.{arith}
use Rattle.page.specs.declared.Item.{Item}
use Rattle.rules.specs.declared.Synchrony.{Synchrony}
use Rattle.rules.specs.declared.Synchrony.TheVariants.{Loose as loose}
use Rattle.rules.specs.declared.ErrorWord.{ErrorWord}
use Rattle.rules.specs.declared.ErrorWord.TheVariants.{Global as global}
use Rattle.rules.specs.Words.{synchrony_of, error_of}
use Rattle.rules.specs.Rules.{Reading, global_start, heard_fate, heard_group, missed_group, fate_of, Outcome, played, dropped, undecided, outcome_of, enter, Line, line, run}
use Rattle.rules.proofs.Bodies.{missed-global-body}
use Rattle.unfolding.specs.Unfolded.{Unfolded, end as nothing-more, action as send, group as held, passes, items}
use Rattle.repeats.specs.Sequences.{sequence}
use Rattle.repeats.specs.Runs.{pass_holder, pass_run, pass_runs}
use Rattle.repeats.proofs.LoopRuns.{loop-passes}

-- ---- the dates

module _ (R : Reading) (i : Item) (period : ℕ) (e : ErrorWord) (j b : ℕ) where
  -- In a loop's group that is heard at j and starts at b, loosely, pass k is a group heard at j that starts at b + k periods.
  pub pass-start : (k : ℕ) → pass_holder R (heard_group loose e j b) i period k ≡ heard_group (synchrony_of i.synchrony) (error_of i.error) j (b + k * period)
  unfolding pass_holder fate_of heard_fate enter
  pass-start k = refl

  -- So the date of what stands s grains into the pass is its date in pass 0, b + s, and k periods.
  pub pass-date : (k s : ℕ) →
      fate_of R (pass_holder R (heard_group loose e j b) i period k) s ≡ heard_fate R (synchrony_of i.synchrony) (error_of i.error) j (b + s + k * period)
  unfolding fate_of
  pass-date k s =
      let d : b + k * period + s ≡ b + s + k * period = omega arith in
      rw (pass-start k) (ap (heard_fate R (synchrony_of i.synchrony) (error_of i.error) j) d)

-- A curve's value k, in a group that is heard at j and starts at b, loosely, is played k steps after the group's start.
pub value-date : (R : Reading) (step : ℕ) (e : ErrorWord) (j b k : ℕ) → outcome_of R (fate_of R (heard_group loose e j b) (k * step)) ≡ played j (b + k * step - R.start j)
unfolding fate_of heard_fate outcome_of
value-date R step e j b k = refl

-- ---- what is played

-- So many places further on the page, and so many grains later.
unfoldable pub delayed_by : ℕ → Outcome → Outcome
delayed_by t (played j d) = played j (d + t)
delayed_by t dropped = dropped
delayed_by t undecided = undecided

unfoldable pub later_by : (places grains : ℕ) → Line → Line
later_by k t (line p m o) = line (p + k) m (delayed_by t o)

-- Every group of these is loose.
pub data AllLoose : Unfolded → Type 0 where
  loose_end : AllLoose nothing-more
  loose_action : {i : Item} {rest : Unfolded} → AllLoose rest → AllLoose (send i rest)
  loose_group : {i : Item} {body rest : Unfolded} → synchrony_of i.synchrony ≡ loose → AllLoose body → AllLoose rest → AllLoose (held i body rest)

module _ (R : Reading) (j t k : ℕ) where
  -- A loose body that is heard t grains later is played t grains later, action by action.
  pub loose-later : {u : Unfolded} → AllLoose u → (e w : ErrorWord) (b s p : ℕ) → R.start j ≤ b →
      run R (heard_group loose e j (b + t)) s (sequence (p + k) u) ≡ map (later_by k t) (run R (heard_group loose w j b) s (sequence p u))
  unfolding run sequence later_by delayed_by fate_of heard_fate outcome_of enter
  loose-later loose_end e w b s p l = refl
  loose-later (loose_action {i = i} {rest = rest} r) e w b s p l =
      let d = i.delay.0 in
      let date : b + t + (s + d) - R.start j ≡ b + (s + d) - R.start j + t = omega arith in
      let place : p + k + 1 ≡ p + 1 + k = omega arith in
      rw (date, place, loose-later r e w b (s + d) (p + 1) l)
  loose-later (loose_group {i = i} {body = body} {rest = rest} x y r) e w b s p l =
      let d = i.delay.0 in
      let date : b + t + (s + d) ≡ b + (s + d) + t = omega arith in
      let first : p + k + 1 ≡ p + 1 + k = omega arith in
      let after : p + 1 + k + items body ≡ p + 1 + items body + k = omega arith in
      rw (
        x,
        date,
        first,
        after,
        loose-later y (error_of i.error) (error_of i.error) (b + (s + d)) 0 (p + 1) (omega arith),
        loose-later r e w b (s + d) (p + 1 + items body) l,
      )
      (sym (map-append (later_by k t) (run R (heard_group loose (error_of i.error) j (b + (s + d))) 0 (sequence (p + 1) body)) (run R (heard_group loose w j b) (s + d) (sequence (p + 1 + items body) rest))))

-- Every action of pass k of a loose loop, with loose groups in its body, is played k periods after the same action of pass 0.
module _ (R : Reading) (i : Item) (period p : ℕ) (e : ErrorWord) (j b : ℕ) (own : synchrony_of i.synchrony ≡ loose) where
  abbrev pub pass : Unfolded → ℕ → List Line
  pass body k = pass_run R (heard_group loose e j b) i period p body k

  first-pass : (body : Unfolded) → pass body 0 ≡ run R (heard_group loose (error_of i.error) j b) 0 (sequence (p + 1) body)
  unfolding pass_run
  first-pass body =
      let n : p + 0 * (1 + items body) + 1 ≡ p + 1 = omega (arith, zero-mul (1 + items body)) in
      let d : b + 0 * period ≡ b = omega (arith, zero-mul period) in
      rw (pass-start R i period e j b 0, own, n, d)

  pub pass-later : {body : Unfolded} → AllLoose body → R.start j ≤ b → (k : ℕ) → pass body k ≡ map (later_by (k * (1 + items body)) (k * period)) (pass body 0)
  unfolding pass_run
  pass-later {body} y l k =
      let n : p + k * (1 + items body) + 1 ≡ p + 1 + k * (1 + items body) = omega arith in
      let w = error_of i.error in
      rw (pass-start R i period e j b k, own, n) (loose-later R j (k * period) (k * (1 + items body)) y w w b 0 (p + 1) l)
      ∙ ap (map (later_by (k * (1 + items body)) (k * period))) (sym (first-pass body))

-- ---- a loop whose event was missed, by the word global: it is heard at j instead, at the later of its own date and E(j), and its passes are counted from there

pub missed-global-passes : (R : Reading) (i : Item) (period p n : ℕ) (y : Synchrony) (j b : ℕ) (body : Unfolded) →
    run R (missed_group y global j b) 0 (sequence p (passes i period 0 n body)) ≡ pass_runs R (heard_group y global j (global_start R j b)) i period p body 0 n
missed-global-passes R i period p n y j b body =
    missed-global-body R y j b 0 (sequence p (passes i period 0 n body)) ∙ loop-passes R (heard_group y global j (global_start R j b)) i period p n body
