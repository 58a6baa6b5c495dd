-- Bytes laid one behind the other in lent bytes.
use Rattle.std.specs.Prelude.{ℕ, ◌+◌, ◌≤◌, ◌≡◌, List, ◌++◌, length, take, drop}

-- The bytes stand behind the first at, up to r, and the others stay.
pub record Laid (out : List ℕ) (at : ℕ) (bytes new : List ℕ) (r : ℕ) : Type 0 where
  pub front : take r new ≡ take at out ++ bytes
  pub others : drop r new ≡ drop r out
  pub stop : r ≡ at + length bytes
  pub within : r ≤ length new
  pub size : length new ≡ length out
