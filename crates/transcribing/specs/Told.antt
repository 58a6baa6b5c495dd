-- What `read` says of a text and `write` of a file, and how they end.
use Rattle.std.specs.Prelude.{ℕ, List, [], Result, Ok, Err, Option, None}
use Rattle.contents.specs.declared.Counts.{Counts}
use Rattle.contents.specs.declared.Fault.{Fault}
use Rattle.contents.specs.Replies.{fault_row}
use Rattle.session.specs.declared.Refusal.TheVariants.{File}
use Rattle.streams.specs.declared.ending.Ending.{Ending}
use Rattle.streams.specs.declared.ending.Ending.TheVariants.{Done, Refused}
use Rattle.text.specs.declared.TextError.{TextError}
use Rattle.text.specs.declared.TextError.TheVariants.{NoRoom, BadText, BadFile}
use Rattle.text.specs.Said.{Reading, said}
use Rattle.script.specs.Tallies.{tally_of}
use Rattle.refusals.specs.Line.{refusal_line}
use Rattle.origins.specs.Origins.{place_in_text}
use Rattle.hints.specs.declared.Hint.{Hint}
use Rattle.hints.specs.Hints.{hint_at, fault_hint}
use Rattle.refusals.specs.Texts.{misread_line, room_line, misfit_line}

-- How much a text has of each kind, by which the entry at fault is named; nothing where it has a fault itself.
unfoldable pub counts_told : Result Counts ℕ → Counts
counts_told (Ok c) = c
counts_told (Err at) = record { events = 0; items = 0; messages = 0; text = 0 }

unfoldable pub counts_said : Reading → Counts
counts_said r = counts_told (tally_of r)

-- The hint of its own fault.
unfoldable pub hint_told : (text : List ℕ) → Result Counts ℕ → Option Hint
hint_told t (Ok c) = None
hint_told t (Err at) = hint_at t at

-- The text has a fault of its own.
unfoldable pub faulty_line : (name text : List ℕ) → (line column : ℕ) → List ℕ
faulty_line name t l c = misread_line name l c (hint_told t (tally_of (said t)))

-- The file that the text would make is refused: told at what made the byte.
unfoldable pub unfit_line : (name text : List ℕ) → Fault → List ℕ
unfit_line name t x = misfit_line name (place_in_text t (fault_row x).place) (counts_said (said t)) (File x) (fault_hint x)

-- Nothing is said where it was granted.
unfoldable pub read_line : (name text : List ℕ) → Result ℕ TextError → List ℕ
read_line name t (Ok n) = []
read_line name t (Err NoRoom) = room_line name
read_line name t (Err (BadText l c)) = faulty_line name t l c
read_line name t (Err (BadFile x)) = unfit_line name t x

unfoldable pub write_line : (name file : List ℕ) → Result ℕ TextError → List ℕ
write_line name f (Ok n) = []
write_line name f (Err NoRoom) = room_line name
write_line name f (Err (BadText l c)) = misread_line name l c None
write_line name f (Err (BadFile x)) = refusal_line name f (File x)

-- Room for any of these lines, without the name.
abbrev pub line_room : ℕ
line_room = 360

-- "0 done, 1 refused"
unfoldable pub ending_of : Result ℕ TextError → Ending
ending_of (Ok n) = Done
ending_of (Err NoRoom) = Refused
ending_of (Err (BadText l c)) = Refused
ending_of (Err (BadFile x)) = Refused
