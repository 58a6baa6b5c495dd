-- The first row that fits decides, and a fault has the hint of its case.
-- Assumes nothing.
use Rattle.std.specs.Prelude.{Option, Some, None}
use mathlib.Core.Path.{◌≡◌, refl, sym, ◌∙◌}
use mathlib.Core.Bool.{Bool, true, false}
use Prim.Native.Nat.{ℕ}
use borrow.Author.Rules.{rules}
use Rattle.base.specs.Tests.{pick}
use Rattle.contents.specs.declared.Fault.{Fault}
use Rattle.contents.specs.declared.Fault.TheVariants.{FileShort, BadCount, BadOffset, BadLength, BadEvent, BadItem, BadMessage, TextLeft, NoMessage}
use Rattle.contents.specs.declared.ItemRule.{ItemRule}
use Rattle.contents.specs.declared.ItemRule.TheVariants as rule
use Rattle.hints.specs.declared.Hint.{Hint}
use Rattle.hints.specs.declared.Hint.TheVariants.{PastList}
use Rattle.hints.specs.Hints.{rule_hint, fault_hint}

module _ (fits told : Bool) (e : told ≡ fits) (h rest : Option Hint) where
  pub row_fits : told ≡ true → h ≡ pick fits h rest
  unfolding pick
  row_fits p = rw (sym e ∙ p)

  pub row-passed : (r : Option Hint) → told ≡ false → r ≡ rest → r ≡ pick fits h rest
  unfolding pick
  row-passed r p q = rw (sym e ∙ p) q

pub ruleset choosing = (row_fits, row-passed, rules)

pub rule-other : (r : ItemRule) → (r ≡ rule.Message → ⊥) → None ≡ rule_hint r
unfolding rule_hint
rule-other rule.Kind n = refl
rule-other rule.Synchrony n = refl
rule-other rule.ErrorWord n = refl
rule-other rule.Part n = refl
rule-other rule.Delay n = refl
rule-other rule.Event n = refl
rule-other rule.Nesting n = refl
rule-other rule.Message n = absurd (n refl)
rule-other rule.Actions n = refl

pub rule-message : (r : ItemRule) → r ≡ rule.Message → Some PastList ≡ rule_hint r
unfolding rule_hint
rule-message r e = rw e

pub fault-item : (x : Fault) (rule : ItemRule) (place : ℕ) (h : Option Hint) → x ≡ BadItem rule place → h ≡ rule_hint rule → h ≡ fault_hint x
unfolding fault_hint
fault-item x rule place h e p = rw e p

pub fault-other : (x : Fault) → ((rule : ItemRule) (place : ℕ) → x ≡ BadItem rule place → ⊥) → None ≡ fault_hint x
unfolding fault_hint
fault-other FileShort n = refl
fault-other (BadCount at) n = refl
fault-other (BadOffset at) n = refl
fault-other BadLength n = refl
fault-other (BadEvent at) n = refl
fault-other (BadItem r at) n = absurd (n r at refl)
fault-other (BadMessage at) n = refl
fault-other TextLeft n = refl
fault-other NoMessage n = refl

pub ruleset cases = (rule-other, rule-message, fault-item, fault-other, rules)
