-- One line of a text that has no fault, and what may stand behind it.
use Rattle.std.specs.Prelude.{ℕ, ◌<◌, ◌≤◌, ◌≡◌, List, length, drop, Option, Some, None}
use Rattle.text.specs.declared.Stage.{Stage}
use Rattle.text.specs.Grammar.{after, done, more, script}
use Rattle.script.specs.Steps.{line_in, Fits}
use Rattle.script.specs.Stages.{held}
use Rattle.script.specs.Balanced.{Balanced}
use Rattle.reader.specs.declared.turns.Turn.{Turn}

-- The lines from this byte on have no fault.
pub record Turnable (t : List ℕ) (at : ℕ) (stage : Stage) : Type 0 where
  pub balanced : Balanced stage (script stage (drop at t))
  pub within : at ≤ length t
  pub few : held stage ≤ at

-- The next of them was read.
pub record Turned (t : List ℕ) (at : ℕ) (stage : Stage) (r : Turn) : Type 0 where
  pub says : script stage (drop at t) ≡ more (line_in t r.found) (script r.stage (drop r.next t))
  pub behind : r.stage ≡ after (line_in t r.found) stage
  pub left : Turnable t r.next r.stage
  pub fits : Fits t r.found
  pub on : at < r.next

-- Either they are over, or the next of them was read.
pub record Turns (t : List ℕ) (at : ℕ) (stage : Stage) (r : Option Turn) : Type 0 where
  pub over : r ≡ None → script stage (drop at t) ≡ done
  pub more : (s : Turn) → r ≡ Some s → Turned t at stage s
