-- Each step of the loop over the lines, in the code's own terms. The invariant: what is looked for among the lines left is what was looked for among all of them.
-- Assumes nothing.
use Rattle.std.specs.Prelude.{Option, Some, None, Result, Ok, Err}
use mathlib.Core.Path.{◌≡◌, refl, sym, ap, ◌∙◌}
use mathlib.Core.Bool.{Bool, true, false}
use mathlib.Core.List.{List}
use Prim.Native.Nat.{ℕ, ◌+◌, ◌-◌, ◌<◌, ◌≤◌, ◌^◌}
use native.Mathlib.Omega.{arith}
use lib.ListN.{length, drop, drop_of_length-le}
use borrow.Author.Rules.{rules}
use Rattle.base.specs.Tests.{pick}
use Rattle.contents.specs.declared.Counts.{Counts}
use Rattle.tokens.specs.Asked.{Passes}
use Rattle.text.specs.declared.Stage.{Stage}
use Rattle.text.specs.declared.Stage.TheVariants.{Start}
use Rattle.text.specs.Grammar.{line, is_over, script}
use Rattle.script.specs.declared.Step.{Step}
use Rattle.script.specs.Steps.{line_in, Lines}
use Rattle.script.specs.Stages.{stage_after, held}
use Rattle.script.proofs.StageSteps.{held_after, after_line}
use Rattle.script.proofs.ScriptSteps.{found-line, script-over, script-fault, line-fits, line-within, script-more, read-line, line_on, line-less}
use Rattle.origins.specs.declared.aims.Aim.{Aim}
use Rattle.origins.specs.declared.aims.Aim.TheVariants.{Nothing, TextEnd, ListEnd, Past}
use Rattle.origins.specs.declared.aims.Table.{Table}
use Rattle.origins.specs.Origins.{placed, placed_lines, token_in, is_listed, Origin, from}
use Rattle.origins.specs.Aims.{share_of, hits_in, aim_behind, ended_as, sought_in, added_by, listed_in, Begins, origin_as, lies_nothing, lies_at, Finds}
use Rattle.origins.proofs.LineSteps.{added-line, listed-line}

-- ---- where the lines are over

module _ (t : List ℕ) (a : Aim) (listed : ℕ) where
  pub ended-nothing : a ≡ Nothing → Finds t (ended_as a (drop listed t)) None
  unfolding ended_as origin_as
  ended-nothing e = rw e (record { says = refl; lies = lies_nothing })

  pub ended-text : a ≡ TextEnd → Finds t (ended_as a (drop listed t)) (Some (length t))
  unfolding ended_as origin_as
  ended-text e = rw e (record { says = ap from (drop_of_length-le t {i = length t} (omega arith)); lies = lies_at {k = length t} (omega arith) })

  pub ended-list : a ≡ ListEnd → listed ≤ length t → Finds t (ended_as a (drop listed t)) (Some listed)
  unfolding ended_as origin_as
  ended-list e p = rw e (record { says = refl; lies = lies_at p })

  pub ended-past : (k : Table) (n : ℕ) → a ≡ Past k n → Finds t (ended_as a (drop listed t)) None
  unfolding ended_as origin_as
  ended-past k n e = rw e (record { says = refl; lies = lies_nothing })

pub ruleset endings = (ended-nothing, ended-text, ended-list, ended-past, rules)

-- ---- the loop

drop-pick : (b : Bool) (n m : ℕ) (t : List ℕ) → drop (pick b n m) t ≡ pick b (drop n t) (drop m t)
unfolding pick
drop-pick true n m t = refl
drop-pick false n m t = refl

pick-within : (b : Bool) (n m k : ℕ) → n ≤ k → m ≤ k → pick b n m ≤ k
unfolding pick
pick-within true n m k p q = p
pick-within false n m k p q = q

pub record Seeking (t : List ℕ) (goal : Origin) (at : ℕ) (stage : Stage) (a : Aim) (listed : ℕ) : Type 0 where
  pub total : sought_in a (drop listed t) (placed_lines stage (drop at t) (script stage (drop at t))) ≡ goal
  pub within : at ≤ length t
  pub behind : listed ≤ length t
  pub few : held stage ≤ at

pub seek-start : (t : List ℕ) (a : Aim) → Seeking t (sought_in a t (placed_lines Start t (script Start t))) 0 Start a 0
unfolding held
seek-start t a = record { total = refl; within = omega arith; behind = omega arith; few = omega arith }

module _ (t : List ℕ) (goal : Origin) (at from₁ : ℕ) (stage : Stage) (a : Aim) (listed : ℕ) (inv : Seeking t goal at stage a listed) (passed : Passes t at from₁) (over : Bool) (asked : over ≡ is_over stage (drop from₁ t)) where
  pub seek-over : (r : Option ℕ) → over ≡ true → Finds t (ended_as a (drop listed t)) r → Finds t goal r
  unfolding placed_lines sought_in
  seek-over r p f =
      let e : ended_as a (drop listed t) ≡ goal = rw (script-over t at from₁ stage passed (sym asked ∙ p)) at inv.total in
      record { says = f.says ∙ e; lies = f.lies }

  module _ (no : over ≡ false) (v : Result Step ℕ) (read : Lines t (line stage (drop from₁ t)) v) where
    pub seek-fault : (r : Option ℕ) (i : ℕ) → v ≡ Err i → Finds t (ended_as a (drop listed t)) r → Finds t goal r
    unfolding placed_lines sought_in
    seek-fault r i k f =
        let e : ended_as a (drop listed t) ≡ goal = rw (script-fault t at from₁ stage passed v read i k (sym asked ∙ no)) at inv.total in
        record { says = f.says ∙ e; lies = f.lies }

    module _ (s : Step) (is : v ≡ Ok s) where
      pub seek-less : length t - s.next < length t - at
      seek-less = line-less t at from₁ stage passed v read s is

      pub seek-held : length t < 2 ^ 64 → held stage + 1 < 2 ^ 64
      seek-held q = omega (arith, line_on t at from₁ stage passed v read s is, inv.few, (line-within t at from₁ stage passed v read s is))

      module _ (c : Counts) (share : ℕ) (hit : Bool) (adding : c ≡ added_by s.found) (sharing : share ≡ share_of a c) (hitting : hit ≡ hits_in a share) where
        -- What was looked for among the lines left, by the first of them.
        first : pick hit (from (token_in (line_in t s.found) (drop from₁ t)))
            (sought_in (aim_behind a share) (pick (is_listed (line_in t s.found)) (drop s.next t) (drop listed t))
            (placed_lines (stage_after s.found stage) (drop s.next t) (script (stage_after s.found stage) (drop s.next t)))) ≡ goal
        unfolding placed_lines placed sought_in
        first =
            let a₁ = after_line t s.found (line_in t s.found) (drop s.next t) (drop s.next t) stage (found-line t s.found (drop s.next t)) in
            rw (hitting, sharing, adding, added-line t s.found (line-fits t at from₁ stage passed v read s is), a₁)
            (rw (script-more t at from₁ stage passed v read s is (sym asked ∙ no), read-line t at from₁ stage passed v read s is, passed.left, a₁) at inv.total)

        pub seek_hit : (k : ℕ) → hit ≡ true → Begins t (token_in (line_in t s.found) (drop from₁ t)) k → Finds t goal (Some k)
        unfolding origin_as pick
        seek_hit k h b =
            let e : from (token_in (line_in t s.found) (drop from₁ t)) ≡ goal = rw h at first in
            record { says = ap from b.left ∙ e; lies = lies_at b.within }

        pub seek-step : (b : Aim) (behind : Stage) (end : ℕ) → hit ≡ false → b ≡ aim_behind a share → behind ≡ stage_after s.found stage → end ≡ pick (listed_in s.found) s.next listed
            → Seeking t goal s.next behind b end
        unfolding pick
        seek-step b behind end h e f g =
            let rest : sought_in (aim_behind a share) (pick (is_listed (line_in t s.found)) (drop s.next t) (drop listed t))
            (placed_lines (stage_after s.found stage) (drop s.next t) (script (stage_after s.found stage) (drop s.next t))) ≡ goal = rw h at first in
            let ends : drop end t ≡ pick (is_listed (line_in t s.found)) (drop s.next t) (drop listed t) = rw (g, ← listed-line t s.found) (drop-pick (listed_in s.found) s.next listed t) in
            rw (e, f)
            (record {
              total = rw ends rest;
              within = (line-within t at from₁ stage passed v read s is);
              behind = rw g (pick-within (listed_in s.found) s.next listed (length t) (line-within t at from₁ stage passed v read s is) inv.behind);
              few = omega (arith, line_on t at from₁ stage passed v read s is, inv.few, held_after s.found stage);
            })

pub ruleset seeking = (seek-start, seek-over, seek-fault, seek-less, seek-held, seek_hit, seek-step, rules)
