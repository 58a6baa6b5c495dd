-- A file read whole: what is told of it.
use Rattle.std.specs.Prelude.{ℕ, ℤ, Result, Ok, Err}
use Rattle.links.specs.Faults.{reason_of}
use Rattle.streams.specs.declared.reading.Broken.{Broken}

-- Of a read that failed no bytes are told, and its number is.
abbrev pub read_of : Result ℕ Broken → Result ℕ ℤ
read_of (Ok count) = Ok count
read_of (Err broken) = Err (reason_of broken.error)
