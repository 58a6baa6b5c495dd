-- "opens a session on it with a set of sounding parts and a tempo"; "The opening takes a grace g, 0 to 630 grains."
use Rattle.std.specs.Prelude.{ℕ}

-- The most grains of it.
abbrev pub most_grace : ℕ
most_grace = 630

-- What an opening settles for the whole performance: the sounding parts, as part bits, the tempo that it begins with, and the grace, in grains.
pub record Terms : Type 0 where
  pub parts : ℕ
  pub tempo : ℕ
  pub grace : ℕ
