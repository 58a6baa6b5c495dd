-- What carrying out a line asks and leaves.
use Rattle.std.specs.Prelude.{◌≡◌, ℕ, ◌*◌, ◌≤◌, Bool, true, List, length, Result, Ok}
use Rattle.ascii.specs.Laying.{Laid}
use Rattle.score.specs.File.{Accepted}
use Rattle.session.specs.declared.Refusal.{Refusal}
use Rattle.session.specs.Layout.{most_sent}
use Rattle.playing.specs.Printed.{Carried}

-- A message's line: three numbers of at most 20 digits, three spaces, a label of at most 48 bytes and a newline.
abbrev pub message_room : ℕ
message_room = 112

-- Room for whatever a line of the input prints: as many messages as a call sends at most.
abbrev pub output_room : ℕ
output_room = 114688

-- As many messages stand in the send room as a call says that it sent.
pub record Fits (sent : Result ℕ Refusal) (room : List ℕ) : Type 0 where
  pub few : (c : ℕ) → sent ≡ Ok c → c ≤ most_sent
  pub within : (c : ℕ) → sent ≡ Ok c → 2 * c ≤ length room

-- A session is open only on an accepted file.
pub record Asked (file : List ℕ) (opened : Bool) (out : List ℕ) : Type 0 where
  pub accepted : opened ≡ true → Accepted file
  pub room : output_room ≤ length out

-- Memory, room and output after a line that was carried out; whether a session is open, and how many bytes were printed.
pub record Carries (c : Carried) (out m' room' out' : List ℕ) (o : Bool) (count : ℕ) : Type 0 where
  pub memory : m' ≡ c.stand.memory
  pub room : room' ≡ c.stand.room
  pub opened : o ≡ c.stand.opened
  pub output : Laid out 0 c.output out' count
