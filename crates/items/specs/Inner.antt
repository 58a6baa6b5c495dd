-- What the steps of the walk ask and answer. No promise of a call of document 01 needs it.
use Rattle.std.specs.Prelude.{◌≡◌, ℕ, ◌+◌, ◌-◌, ◌*◌, ◌≤◌, Bool, [], ◌∷◌, Result, Ok, Err}
use Rattle.page.specs.declared.Item.{Item}
use Rattle.base.specs.Tests.{pick, every}
use Rattle.base.specs.Checks.{Check, fine, refused, is_fine}
use Rattle.contents.specs.declared.Fault.{Fault}
use Rattle.contents.specs.declared.ItemRule.{ItemRule}
use Rattle.contents.specs.declared.ItemRule.TheVariants as rule
use Rattle.contents.specs.declared.Counts.{Counts}
use Rattle.contents.specs.Limits.{most_items, most_actions, item_size}
use Rattle.items.specs.declared.Setting.{Setting}
use Rattle.items.specs.declared.walk.Step.{Step}
use Rattle.items.specs.Items.{kind_right, synchrony_right, error_right, part_right, delay_right, event_right, nesting_right, number_right, actions_right, item_right, within_of, own_of, broken_at}

-- What an item says by itself and by its group, and how it stands in the table: the rules of an item, in two halves.
unfoldable pub fields_right : Item → Setting → Bool
fields_right i h = every (kind_right i ∷ synchrony_right i ∷ error_right i ∷ part_right i h ∷ delay_right i ∷ [])

unfoldable pub standing_right : Item → Counts → Setting → ℕ → ℕ → Bool
standing_right i c h left actions = every (event_right i c h ∷ nesting_right i h left ∷ number_right i c ∷ actions_right i actions ∷ [])

-- The rule that a wrong item breaks. Of a right one, the last stands for it.
unfoldable pub broken_by : Check ItemRule → ItemRule
broken_by fine = rule.Actions
broken_by (refused r) = r

-- What the walk goes on with after an item that is right.
unfoldable pub step_of : Item → ℕ → ℕ → Step
step_of i left actions = record { body = within_of i; after = left - within_of i; actions = actions + own_of i; event = i.event; part = i.part }

-- The item at the byte at: what the walk goes on with, or the fault.
unfoldable pub judged : (at : ℕ) → Item → Counts → Setting → ℕ → ℕ → Result Step Fault
judged at i c h left actions =
    pick (is_fine (item_right i c h left actions)) (Ok (step_of i left actions)) (Err (broken_at at (broken_by (item_right i c h left actions))))

-- What holds of any step, so that its numbers fit.
pub record StepFits (left : ℕ) (s : Step) : Type 0 where
  pub sum : s.body + s.after ≡ left
  pub few : s.actions ≤ most_actions

pub record Room (i : Item) (left actions : ℕ) : Type 0 where
  pub body : within_of i ≤ left
  pub own : actions + own_of i ≤ most_actions

-- The count items from the byte at on stand in a file of this size, and their numbers fit.
pub record Walkable (size at count : ℕ) (h : Setting) (actions : ℕ) : Type 0 where
  pub within : at + item_size * count ≤ size
  pub depth : h.depth + count ≤ 1 + most_items
  pub few : actions ≤ most_actions
