-- What a run of `check` over several files comes to.
use Rattle.std.specs.Prelude.{ℕ, zero, suc, ◌+◌, Bool, List, [], ◌∷◌, ◌++◌, ltb}
use Rattle.base.specs.Tests.{pick, every}
use Rattle.ascii.specs.Text.{bytes_of}
use Rattle.ascii.specs.Words.{newline}
use Rattle.checking.specs.Counted.{counted}
use Rattle.streams.specs.declared.ending.Ending.{Ending}
use Rattle.streams.specs.declared.ending.Ending.TheVariants.{Done, Refused, Failed}
use Rattle.checking.specs.declared.run.Tally.{Tally}
use Rattle.checking.specs.declared.run.Came.{Came}
use Rattle.checking.specs.declared.run.Came.TheVariants.{Accepted, Unread}
use Rattle.checking.specs.declared.run.Came.TheVariants as came

-- Failed where a file could not be read, else refused where one was refused, else done.
unfoldable pub ending_by : (refused unread : ℕ) → Ending
ending_by zero zero = Done
ending_by (suc r) zero = Refused
ending_by r (suc u) = Failed

unfoldable pub ending_of : Tally → Ending
ending_of t = ending_by t.refused t.unread

-- Before the first file.
abbrev pub no_files : Tally
no_files = record { accepted = 0; refused = 0; unread = 0 }

-- One more, up to the most that can be counted.
abbrev pub most_files : ℕ
most_files = 4294967295

unfoldable pub one_more : ℕ → ℕ
one_more n = pick (ltb n most_files) (n + 1) n

-- One file more.
unfoldable pub tallied : Tally → Came → Tally
tallied t Accepted = record { accepted = one_more t.accepted; refused = t.refused; unread = t.unread }
tallied t came.Refused = record { accepted = t.accepted; refused = one_more t.refused; unread = t.unread }
tallied t Unread = record { accepted = t.accepted; refused = t.refused; unread = one_more t.unread }

abbrev pub files : Tally → ℕ
files t = t.accepted + t.refused + t.unread

-- The sum is told of several files, where not all were accepted.
unfoldable pub worth_telling : Tally → Bool
worth_telling t = every (ltb 0 (t.refused + t.unread) ∷ ltb 1 (files t) ∷ [])

-- `N files: A accepted, R refused, U can't be read`, and room for it
unfoldable pub tally_told : Tally → List ℕ
tally_told t = counted (files t) " files: " ++ (counted t.accepted " accepted, " ++ (counted t.refused " refused, " ++ counted t.unread " can't be read"))

abbrev pub tallies_room : ℕ
tallies_room = 123

-- The same as a line, by the name of what tells it, and room for that.
unfoldable pub tally_line : Tally → List ℕ
tally_line t = bytes_of "bin/poolmirror: " ++ (tally_told t ++ (newline ∷ []))

abbrev pub tally_room : ℕ
tally_room = 160
