-- Small tables, and towers of loops, worked out by the definitions.
-- Assumes nothing.
use mathlib.Core.Path.{◌≡◌, refl}
use mathlib.Core.List.{List, [], ◌∷◌}
use Prim.Native.Nat.{ℕ}
use Rattle.std.specs.Prelude.{None}
use Rattle.base.specs.Tests.{pick, every}
use Rattle.shapes.specs.declared.Shape.{Shape}
use Rattle.shapes.specs.Shapes.{passes, values, inside_of, becomes, within_of, unfolded_to, unfolded, items, actions, depth}
use Rattle.shapes.proofs.SizeSteps.{sized}
use Rattle.shapes.specs.Sizes.{told, sizes_of}

-- a loop of 3 passes over an action and a curve of 4 values, then an action
abbrev shape : (kind last times : ℕ) → Shape
shape k l n = record { kind = k; last = l; times = n }

abbrev pub figure : List Shape
figure = shape 2 2 3 ∷ shape 0 0 0 ∷ shape 3 0 4 ∷ shape 0 0 0 ∷ []

-- the loop's group, 3 passes of a group, an action and a curve's group of 4, and the action
pub figure-sizes : sizes_of (unfolded figure) ≡ sized 23 16
unfolding pick every passes values inside_of becomes within_of unfolded_to unfolded items actions depth told sizes_of
figure-sizes = refl

-- an action at depth 8 in three loops and a group; at depth 9 in four loops
abbrev pub tower : List Shape
tower = shape 2 4 1 ∷ shape 2 3 1 ∷ shape 2 2 1 ∷ shape 1 1 0 ∷ shape 0 0 0 ∷ []

pub tower-of-8 : sizes_of (unfolded tower) ≡ sized 8 1
unfolding pick every passes values inside_of becomes within_of unfolded_to unfolded items actions depth told sizes_of
tower-of-8 = refl

abbrev pub too_deep : List Shape
too_deep = shape 2 4 1 ∷ shape 2 3 1 ∷ shape 2 2 1 ∷ shape 2 1 1 ∷ shape 0 0 0 ∷ []

pub tower-of-9 : sizes_of (unfolded too_deep) ≡ None
unfolding pick every passes values inside_of becomes within_of unfolded_to unfolded items actions depth told sizes_of
tower-of-9 = refl
