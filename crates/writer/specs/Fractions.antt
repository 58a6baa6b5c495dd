-- A beat's grains and a delay's, and what divides both.
use Rattle.std.specs.Prelude.{ℕ, ◌*◌, ◌%◌, ◌≤◌, ◌≡◌}
use Rattle.tokens.specs.Beats.{grains_of_a_beat}

-- Euclid's steps: what serves both numbers of a pair as a denominator is what serves the delay, and what divides both divides a beat's grains.
pub record Pair (g a b : ℕ) : Type 0 where
  pub serves : (d : ℕ) → a * d % grains_of_a_beat ≡ 0 → b * d % grains_of_a_beat ≡ 0 → g * d % grains_of_a_beat ≡ 0
  pub served : (d : ℕ) → g * d % grains_of_a_beat ≡ 0 → (a * d % grains_of_a_beat ≡ 0) × (b * d % grains_of_a_beat ≡ 0)
  pub divides : (k : ℕ) → a % k ≡ 0 → b % k ≡ 0 → grains_of_a_beat % k ≡ 0
  pub some : 1 ≤ a

-- At their end: the greatest number that divides both.
abbrev pub Common : (g a : ℕ) → Type 0
Common g a = Pair g a 0
