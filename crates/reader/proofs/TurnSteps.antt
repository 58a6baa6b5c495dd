-- What a line that was read says of a text that has no fault, in the code's own terms.
-- Assumes nothing.
use Rattle.std.specs.Prelude.{Option, Some, None, Result, Ok, Err, IsOk}
use mathlib.Core.Path.{◌≡◌, refl, sym, ◌∙◌}
use mathlib.Core.Bool.{Bool, true, false}
use mathlib.Core.List.{List}
use Prim.Native.Nat.{ℕ, suc, ◌+◌, ◌-◌, ◌<◌, ◌≤◌, ◌^◌}
use native.Mathlib.Omega.{arith}
use lib.ListN.{length, drop}
use borrow.Author.Rules.{rules}
use Rattle.tokens.specs.Asked.{Passes}
use Rattle.text.specs.declared.Stage.{Stage}
use Rattle.text.specs.Grammar.{Line, line, after, further, deeper, shallower, is_over, Script, more, fault, script}
use Rattle.script.specs.declared.Step.{Step}
use Rattle.script.specs.Steps.{line_in, Lines}
use Rattle.script.specs.Stages.{stage_after, held}
use Rattle.script.specs.Balanced.{Balanced, ends, heads, lists, times, parts, sends, opens, closes}
use Rattle.script.proofs.StageSteps.{after_line, held_after}
use Rattle.script.proofs.ScriptSteps.{found-line, script-over, script-fault, line-fits, line-within, script-more, line_on}
use Rattle.reader.specs.declared.turns.Turn.{Turn}
use Rattle.reader.specs.Turns.{Turnable, Turned, Turns}

-- ---- lines without a fault

no_fault : {stage : Stage} {s : Script} (left : List ℕ) → Balanced stage s → s ≡ fault left → ⊥
no_fault left (ends m) e = let z : ◌≡◌ {A = ℕ} 0 1 = cc in omega arith
no_fault left (heads b) e = let z : ◌≡◌ {A = ℕ} 0 1 = cc in omega arith
no_fault left (lists b) e = let z : ◌≡◌ {A = ℕ} 0 1 = cc in omega arith
no_fault left (times p b) e = let z : ◌≡◌ {A = ℕ} 0 1 = cc in omega arith
no_fault left (parts p b) e = let z : ◌≡◌ {A = ℕ} 0 1 = cc in omega arith
no_fault left (sends b) e = let z : ◌≡◌ {A = ℕ} 0 1 = cc in omega arith
no_fault left (opens b) e = let z : ◌≡◌ {A = ℕ} 0 1 = cc in omega arith
no_fault left (closes b) e = let z : ◌≡◌ {A = ℕ} 0 1 = cc in omega arith

balanced-left : {stage : Stage} {l : Line} {s : Script} → Balanced stage (more l s) → Balanced (after l stage) s
unfolding after further deeper shallower
balanced-left (heads b) = b
balanced-left (lists b) = b
balanced-left (times p b) = b
balanced-left (parts p b) = b
balanced-left (sends b) = b
balanced-left (opens b) = b
balanced-left (closes {depth = depth} b) = let z : suc depth - 1 ≡ depth = omega arith in rw z b

-- ---- the next of them

module _ (t : List ℕ) (at from : ℕ) (stage : Stage) (asked : Turnable t at stage) (passed : Passes t at from) (over : Bool) (told : over ≡ is_over stage (drop from t)) where
  pub turn-over : over ≡ true → Turns t at stage None
  turn-over p =
      record {
        over = λ e. script-over t at from stage passed (sym told ∙ p);
        more = λ s e. let z : ◌≡◌ {A = ℕ} 0 1 = cc in absurd (omega arith);
      }

  module _ (no : over ≡ false) (v : Result Step ℕ) (read : Lines t (line stage (drop from t)) v) where
    -- The text has no fault, so the line is read.
    pub turn-sure : IsOk v
    turn-sure = go v refl where
      go : (w : Result Step ℕ) → v ≡ w → IsOk w
      go (Ok s) e = refl
      go (Err i) e = absurd (no_fault (drop i t) asked.balanced (script-fault t at from stage passed v read i e (sym told ∙ no)))

    module _ (s : Step) (is : v ≡ Ok s) where
      turn_on : at < s.next
      turn_on = omega (arith, line_on t at from stage passed v read s is)

      turn-end : s.next ≤ length t
      turn-end = line-within t at from stage passed v read s is

      pub turn-held : length t < 2 ^ 64 → held stage + 1 < 2 ^ 64
      turn-held q = omega (arith, turn_on, asked.few, turn-end)

      pub turn_more : (behind : Stage) → behind ≡ stage_after s.found stage → Turns t at stage (Some (record { found = s.found; next = s.next; stage = behind }))
      turn_more behind e =
          let l = line_in t s.found in
          let left = drop s.next t in
          let a : behind ≡ after l stage = e ∙ after_line t s.found l left left stage (found-line t s.found left) in
          let m : script stage (drop at t) ≡ more l (script behind left) = rw e (script-more t at from stage passed v read s is (sym told ∙ no)) in
          let b : Balanced stage (more l (script behind left)) = rw m at asked.balanced in
          let c : Balanced behind (script behind left) = rw a (balanced-left (rw a at b)) in
          let h : held behind ≤ s.next = rw e (omega (arith, held_after s.found stage, turn_on, asked.few)) in
          let d : Turned t at stage (record { found = s.found; next = s.next; stage = behind }) =
          record {
            says = m;
            behind = a;
            left = record { balanced = c; within = turn-end; few = h };
            fits = line-fits t at from stage passed v read s is;
            on = turn_on;
          } in
          record {
            over = λ f. let z : ◌≡◌ {A = ℕ} 0 1 = cc in absurd (omega arith);
            more = λ r f. let z : record { found = s.found; next = s.next; stage = behind } ≡ r = cc in rw (← z) d;
          }

pub turn-within : (t : List ℕ) (at : ℕ) (stage : Stage) → Turnable t at stage → at ≤ length t
turn-within t at stage a = a.within

-- ---- what the code asks of a line that was read

module _ (t : List ℕ) (at : ℕ) (stage : Stage) (v : Option Turn) (turns : Turns t at stage v) (s : Turn) (no : v ≡ Some s) where
  pub turn-less : length t - s.next < length t - at
  turn-less =
      let d = turns.more s no in
      omega (arith, d.on, d.left.within)

pub ruleset turning = (turn-over, turn-sure, turn-held, turn_more, turn-within, rules)
