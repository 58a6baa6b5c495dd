-- The status that tells how a program ended.
use Rattle.std.specs.Prelude.{ℕ}
use Rattle.streams.specs.declared.ending.Ending.{Ending}
use Rattle.streams.specs.declared.ending.Ending.TheVariants.{Done, Refused, Failed}

-- "0 done, 1 refused, 2 wrong usage or a file that can't be read or written"
abbrev pub status_of : Ending → ℕ
status_of Done = 0
status_of Refused = 1
status_of Failed = 2
