-- What is left of a list when the others are struck out.
use Rattle.std.specs.Prelude.{Bool, List, [], ◌∷◌}
use Rattle.base.specs.Tests.{pick}

-- Those that pass the test, in order.
unfoldable pub only {ℓ} : {A : Type ℓ} → (A → Bool) → List A → List A
only T [] = []
only T (x ∷ l) = pick (T x) (x ∷ only T l) (only T l)
