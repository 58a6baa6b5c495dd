-- How far a run has come, whether it has failed or not. No promise of the program needs it.
use Rattle.std.specs.Prelude.{◌≡◌, ℕ, ◌≤◌, List}
use Rattle.lines.specs.Input.{kept_bytes}
use Rattle.playing.specs.Inner.{Asked}
use Rattle.chunks.specs.declared.Progress.{Progress}

-- With this grace, by so many lines at most, and what the next line asks for.
abbrev pub Came : (file : List ℕ) → (grace most : ℕ) → Progress → (out : List ℕ) → Type 0
Came f grace most p out = (p.have ≤ kept_bytes) × (p.lines ≤ most) × (p.grace ≡ grace) × Asked f p.opened out
