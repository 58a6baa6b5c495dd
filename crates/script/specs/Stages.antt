-- What may stand behind a line that was found.
use Rattle.std.specs.Prelude.{ℕ, []}
use Rattle.tokens.specs.Tokens.{Read, got, stop}
use Rattle.text.specs.declared.Stage.{Stage}
use Rattle.text.specs.declared.Stage.TheVariants.{Start, Listing, Timed, Playing}
use Rattle.text.specs.Grammar.{Line, after}
use Rattle.script.specs.declared.Found.{Found}
use Rattle.script.specs.Steps.{line_of}

unfoldable pub after_read : Read Line → Stage → Stage
after_read (got l left) stage = after l stage
after_read (stop left) stage = stage

-- No line's label matters to what may stand behind it, so no text is asked for.
unfoldable pub stage_after : Found → Stage → Stage
stage_after found stage = after_read (line_of [] found []) stage

-- The messages read, or the groups open.
unfoldable pub held : Stage → ℕ
held Start = 0
held (Listing next) = next
held Timed = 0
held (Playing depth) = depth
