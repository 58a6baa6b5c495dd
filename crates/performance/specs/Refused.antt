-- Whether a performance has been refused, and how it ends.
use Rattle.std.specs.Prelude.{Bool, true, false, List, ℕ}
use Rattle.base.specs.Tests.{pick}
use Rattle.streams.specs.declared.ending.Ending.{Ending}
use Rattle.streams.specs.declared.ending.Ending.TheVariants.{Done, Refused}
use Rattle.chunks.specs.Reading.{Reading, line_on}
use Rattle.telling.specs.Openings.{tells_refusal}

-- An opening has been refused, after the rest of a chunk up to its first line's end.
unfoldable pub refused_after : (file : List ℕ) → Reading → (rest : List ℕ) → (refused : Bool) → Bool
refused_after f r rest refused = pick (tells_refusal (line_on f r rest).output) true refused

-- A performance that was read and written to its end is refused where its opening was, and else done.
abbrev pub ending_after : (refused : Bool) → Ending
ending_after true = Refused
ending_after false = Done
