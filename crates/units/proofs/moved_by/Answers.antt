-- The product of a lawful number of milliseconds and a lawful tempo is small: the one fact that is not linear.
-- Assumes nothing.
use Prim.Native.Nat.{ℕ, ◌*◌, ◌≤◌}
use native.Mathlib.Nat.{mul-le-mul}
use borrow.Author.Rules.{rules}
use Rattle.units.proofs.moved_by.Goals as goal

step_small : (m tempo : ℕ) → m ≤ 1000 → tempo ≤ 50400 → m * tempo ≤ 50400000
step_small m tempo p q = mul-le-mul p q

pub overflow_mul-result : goal.overflow_mul-result
overflow_mul-result c = let h = step_small _ _ c.requires.0 c.requires.1 in search rules

pub returns : goal.returns
returns c = search (step_small, rules)
