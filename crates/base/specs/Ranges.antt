-- A decision over ranges, as the paper gives it in a table and the code makes it by a `match`.
use Rattle.std.specs.Prelude.{ℕ, List, [], ◌∷◌}
use Rattle.base.specs.Tests.{pick, between}

-- A case: "lo to hi", both included, and what is decided there.
infix 68 ◌to◌⇒◌
pub data Case (A : Type 0) : Type 0 where
  ◌to◌⇒◌ : (lo hi : ℕ) → A → Case A

-- The first case that the number lies in decides; where it lies in none, it is the other.
unfoldable pub by_range : {A : Type 0} → ℕ → List (Case A) → (other : A) → A
by_range x [] other = other
by_range x ((lo to hi ⇒ a) ∷ cases) other = pick (between lo hi x) a (by_range x cases other)
