-- The first rule that an item breaks, as the code finds it: an item is right where both halves of its rules are kept, and where one is broken those before it are kept.
-- Assumes nothing.
use mathlib.Core.Path.{◌≡◌, refl, ◌∙◌}
use mathlib.Core.Bool.{Bool, true, false}
use mathlib.Core.List.{List, [], ◌∷◌}
use Prim.Native.Nat.{ℕ}
use Rattle.page.specs.declared.Item.{Item}
use Rattle.base.specs.Tests.{every}
use Rattle.base.specs.Checks.{Check, need, first_fault, is_fine}
use Rattle.base.proofs.TestLaws.{told-true, told-false, every-both}
use Rattle.base.proofs.CheckLaws.{fine_end, fine_more}
use Rattle.contents.specs.declared.ItemRule.{ItemRule}
use Rattle.contents.specs.declared.ItemRule.TheVariants as rule
use Rattle.contents.specs.declared.Counts.{Counts}
use Rattle.items.specs.declared.Setting.{Setting}
use Rattle.items.specs.Items.{kind_right, synchrony_right, error_right, part_right, delay_right, event_right, nesting_right, number_right, actions_right, item_right}
use Rattle.items.specs.Inner.{fields_right, standing_right, broken_by}

-- ---- the two halves

pub right-halves : (i : Item) (c : Counts) (h : Setting) (left n : ℕ) → is_fine (item_right i c h left n) ≡ every (fields_right i h ∷ standing_right i c h left n ∷ [])
unfolding item_right fields_right standing_right
right-halves i c h left n =
    fine_more _ _ _ _ (fine_more _ _ _ _ (fine_more _ _ _ _ (fine_more _ _ _ _ (fine_more _ _ _ _
    (fine_more _ _ _ _ (fine_more _ _ _ _ (fine_more _ _ _ _ (fine_more _ _ _ _ (fine_end ItemRule)))))))))
    ∙ every-both (kind_right i ∷ synchrony_right i ∷ error_right i ∷ part_right i h ∷ delay_right i ∷ []) (event_right i c h ∷ nesting_right i h left ∷ number_right i c ∷ actions_right i n ∷ [])

-- ---- the first rule broken

module _ (b : Bool) (l : List (Check ItemRule)) where
  pub broken-here : (r : ItemRule) → b ≡ false → r ≡ broken_by (first_fault (need b r ∷ l))
  unfolding first_fault need broken_by
  broken-here r e = rw e

  pub broken-later : (r x : ItemRule) → b ≡ true → r ≡ broken_by (first_fault l) → r ≡ broken_by (first_fault (need b x ∷ l))
  unfolding first_fault need
  broken-later r x e p = rw e p

pub broken-last : (b : Bool) → rule.Actions ≡ broken_by (first_fault (need b rule.Actions ∷ []))
unfolding first_fault need broken_by
broken-last true = refl
broken-last false = refl

pub ruleset broken = (broken-here, broken-later, broken-last, told-true, told-false)
