-- Why an opening is refused, for people. That this is its refusal is a theorem (`why-refused` in proofs/OpenSteps).
use Rattle.std.specs.Prelude.{Bool, List, ℕ}
use Rattle.base.specs.Tests.{pick}
use Rattle.base.specs.Checks.{fine, refused}
use Rattle.score.specs.File.{checked}
use Rattle.session.specs.declared.Refusal.{Refusal}
use Rattle.session.specs.declared.Refusal.TheVariants.{File, BadTempo, BadGrace}

-- In memory that is long enough: for the file's first fault, else for the grace, where its number was given, else for the tempo.
unfoldable pub why_refused : (file : List ℕ) → (nineteen : Bool) → Refusal
why_refused f nineteen = elim (checked f) [ fine ↦ pick nineteen BadGrace BadTempo | refused x ↦ File x ]
