-- The rule that the item was found to break, and where its field stands.
-- Assumes nothing.
use native.Mathlib.Omega.{arith}
use Rattle.items.proofs.WalkSteps.{field-small}
use Rattle.items.proofs.walk.fault_at.Goals as goal

pub overflow_add-place : goal.overflow_add-place
overflow_add-place c = let s = field-small _ _ c.rule_row.ensures in omega arith
