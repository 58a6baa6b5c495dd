-- What is in a score: how many actions, and which parts.
use Rattle.std.specs.Prelude.{ℕ, Bool, true, false, List, [], ◌∷◌, length, eqb}
use Rattle.page.specs.declared.Item.{Item}
use Rattle.base.specs.Tests.{pick}
use Rattle.base.specs.Only.{only}
use Rattle.items.specs.Items.{is_action}

-- How many of the items are actions.
unfoldable pub actions_in : List Item → ℕ
actions_in is = length (only (λ (i : Item). is_action i) is)

-- Some item has this part.
unfoldable pub uses : (part : ℕ) → List Item → Bool
uses part [] = false
uses part (i ∷ is) = pick (eqb i.part part) true (uses part is)

-- "part (0 to 15)"
abbrev pub all_parts : List ℕ
all_parts = 0 ∷ 1 ∷ 2 ∷ 3 ∷ 4 ∷ 5 ∷ 6 ∷ 7 ∷ 8 ∷ 9 ∷ 10 ∷ 11 ∷ 12 ∷ 13 ∷ 14 ∷ 15 ∷ []

-- The parts that some item has, rising.
unfoldable pub parts_in : List Item → List ℕ
parts_in is = only (λ (part : ℕ). uses part is) all_parts
