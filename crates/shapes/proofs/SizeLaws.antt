-- What the answer says of the unfolded score: within exactly if all three sizes are, and over exactly if one is.
-- Assumes nothing.
use mathlib.Core.Path.{◌≡◌}
use Prim.Native.Nat.{ℕ, ◌≤◌}
use native.Mathlib.Omega.{arith}
use Rattle.std.specs.Prelude.{None}
use Rattle.contents.specs.Limits.{most_items, most_actions, deepest}
use Rattle.shapes.specs.Shapes.{Tree, items, actions, depth}
use Rattle.shapes.specs.Sizes.{sizes_of}
use Rattle.shapes.proofs.SizeSteps.{sized, told-fine, exactly}

module _ (s : Tree) where
  -- an answer that is within has the sizes of the unfolded score, which are within the limits
  pub within-exact : (n a : ℕ) → sizes_of s ≡ sized n a → (n ≡ items s) × (a ≡ actions s) × (items s ≤ most_items) × (actions s ≤ most_actions) × (depth s ≤ deepest)
  unfolding sizes_of
  within-exact n a e = let x = exactly (items s) (actions s) (depth s) n a e in (x.items, x.actions, x.fine.few, x.fine.sent, x.fine.flat)

  -- an answer that it is over is never given to sizes within the limits
  pub over-exact : sizes_of s ≡ None → items s ≤ most_items → actions s ≤ most_actions → depth s ≤ deepest → ⊥
  unfolding sizes_of
  over-exact e p q r =
      let w = told-fine (items s) (actions s) (depth s) (record { few = p; sent = q; flat = r }) in
      let z : ◌≡◌ {A = ℕ} 0 1 = cc in
      omega arith
