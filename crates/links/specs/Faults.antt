-- What a call to the system comes to, and the error number that is told where it fails.
use Rattle.std.specs.Prelude.{ℕ, zero, suc, ℤ, pos, negsuc, Result, Ok, Err}
use Rattle.std.specs.declared.io.Error.{Error}
use Rattle.streams.specs.Outcomes.{number_of}

-- The number of an input or output error.
abbrev pub input_output : ℕ
input_output = 5

-- A failure is told by the system's number, which is never 0.
unfoldable pub reason_of : ℤ → ℤ
reason_of (pos zero) = pos input_output
reason_of (pos (suc n)) = pos (suc n)
reason_of (negsuc n) = negsuc n

-- What a call gave stays, and its failure is told by that number.
abbrev pub told_of : {T : Type 0} → Result T ℤ → Result T ℤ
told_of (Ok given) = Ok given
told_of (Err error) = Err (reason_of error)

-- The same of an answer of std, as of a step that was done or of a file that was opened.
abbrev pub answered_of : {T : Type 0} → Result T Error → Result T ℤ
answered_of (Ok given) = Ok given
answered_of (Err e) = Err (reason_of (number_of e))
