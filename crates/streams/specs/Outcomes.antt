-- What one call to read or write comes to, by its answer and the error number that a failure has.
use Rattle.std.specs.Prelude.{ℕ, zero, suc, ◌≤◌, Bool, true, false, cond, eqb, ℤ, pos, negsuc, Option, Result, Ok, Err, IfOk, IfSome}
use Rattle.std.specs.declared.option.Option.TheVariants as option
use Rattle.std.specs.IoError.{raw_os_error}
use Rattle.std.specs.declared.io.Error.{Error}
use Rattle.streams.specs.declared.calls.Outcome.{Outcome}
use Rattle.streams.specs.declared.calls.Outcome.TheVariants as outcome

-- The error numbers of a call that a signal interrupted, and of one on a descriptor that is not ready.
abbrev pub interrupted : ℕ
interrupted = 4

abbrev pub not_ready : ℕ
not_ready = 11

-- The system's number of an error, or 0 where it is none of the system's.
abbrev pub number_by : Option ℤ → ℤ
number_by option.None = pos 0
number_by (option.Some error) = error

abbrev pub number_of : Error → ℤ
number_of e = number_by (raw_os_error e)

-- A call that failed is made again at once, or later, or has failed for good, with its number.
unfoldable pub failure_of : ℤ → Outcome
failure_of (pos n) = cond (eqb n interrupted) outcome.Again (cond (eqb n not_ready) outcome.Wait (outcome.Failed (pos n)))
failure_of (negsuc n) = outcome.Failed (negsuc n)

-- So many bytes were moved, or none.
unfoldable pub moved_of : ℕ → Outcome
moved_of zero = outcome.Nothing
moved_of (suc n) = outcome.Took (suc n)

-- An answer is how many bytes were moved, or a failure.
unfoldable pub outcome_of : Result ℕ Error → Outcome
outcome_of (Ok n) = moved_of n
outcome_of (Err e) = failure_of (number_of e)

-- Whether the call is made again.
abbrev pub retried : Outcome → Bool
retried (outcome.Took n) = false
retried outcome.Nothing = false
retried outcome.Again = true
retried outcome.Wait = true
retried (outcome.Failed error) = false

-- What a read that is not made again gave: no bytes are the input's end.
abbrev pub got_of : Outcome → Result (Option ℕ) ℤ
got_of (outcome.Took n) = Ok (option.Some n)
got_of outcome.Nothing = Ok option.None
got_of outcome.Again = Err (pos interrupted)
got_of outcome.Wait = Err (pos not_ready)
got_of (outcome.Failed error) = Err error

-- How many bytes a write that is not made again took, or the number of its failure: where it took none, it has failed, with no number.
abbrev pub took_of : Outcome → Result ℕ ℤ
took_of (outcome.Took n) = Ok n
took_of outcome.Nothing = Err (pos 0)
took_of outcome.Again = Err (pos interrupted)
took_of outcome.Wait = Err (pos not_ready)
took_of (outcome.Failed error) = Err error

-- Of most bytes handed in, at least one and no more than all.
abbrev pub Some : ℕ → ℕ → Type 0
Some most n = (1 ≤ n) × (n ≤ most)

unfoldable pub Within : ℕ → Outcome → Type 0
Within most (outcome.Took n) = Some most n
Within most outcome.Nothing = Unit {0}
Within most outcome.Again = Unit {0}
Within most outcome.Wait = Unit {0}
Within most (outcome.Failed error) = Unit {0}

abbrev pub Gives : ℕ → Result (Option ℕ) ℤ → Type 0
Gives most got = IfOk got (λ n. IfSome n (Some most))

abbrev pub Takes : ℕ → Result ℕ ℤ → Type 0
Takes most took = IfOk took (Some most)
