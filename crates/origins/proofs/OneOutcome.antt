-- Whoever looks for what made a byte by this contract finds the same line and column.
-- Assumes nothing.
use mathlib.Core.Path.{◌≡◌, sym, ◌∙◌}
use mathlib.Core.List.{List}
use Prim.Native.Nat.{ℕ}
use Rattle.tokens.specs.declared.Place.{Place}
use Rattle.origins.specs.Origins.{place_in_text}

pub one_place : (t : List ℕ) (place : ℕ) (r s : Place) → r ≡ place_in_text t place → s ≡ place_in_text t place → r ≡ s
one_place t place r s a b = a ∙ sym b
