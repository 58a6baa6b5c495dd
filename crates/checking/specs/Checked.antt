-- The line that `check` prints for a file.
use Rattle.std.specs.Prelude.{ℕ, ◌≡◌, List, [], ◌∷◌, ◌++◌}
use Rattle.base.specs.Checks.{Check, fine, refused, is_fine}
use Rattle.ascii.specs.Words.{space, newline}
use Rattle.ascii.specs.Decimals.{decimal}
use Rattle.ascii.specs.Text.{bytes_of}
use Rattle.ascii.specs.Laying.{Laid}
use Rattle.contents.specs.declared.Fault.{Fault}
use Rattle.contents.specs.Contents.{counts_of}
use Rattle.score.specs.Piece.{decode}
use Rattle.score.specs.File.{checked}
use Rattle.session.specs.declared.Refusal.TheVariants.{File}
use Rattle.refusals.specs.Line.{refusal_line}
use Rattle.checking.specs.declared.line.Checked.{Checked}
use Rattle.checking.specs.Counted.{counted}
use Rattle.checking.specs.Tallies.{actions_in, parts_in}

-- Each part with a space before it.
unfoldable pub listed : (parts : List ℕ) → List ℕ
listed [] = []
listed (p ∷ ps) = (space ∷ decimal p) ++ listed ps

-- The same, in words where there is none.
unfoldable pub parts_told : (parts : List ℕ) → List ℕ
parts_told [] = bytes_of " none"
parts_told (p ∷ ps) = listed (p ∷ ps)

-- How many events, items, actions and messages the score has, and the word before its parts.
unfoldable pub counts_told : (file : List ℕ) → List ℕ
counts_told f =
    let c = counts_of f in
    counted c.events " events, "
    ++ (counted c.items " items, " ++ (counted (actions_in (decode f).items) " actions, " ++ counted c.messages " messages, parts"))

-- `old.bin: accepted, 256 events, 2048 items, 1024 actions, 512 messages, parts 0 3 15`
unfoldable pub accepted_line : (name file : List ℕ) → List ℕ
accepted_line name f = name ++ (bytes_of ": accepted, " ++ (counts_told f ++ (parts_told (parts_in (decode f).items) ++ (newline ∷ []))))

-- By what the check found: the line of an accepted file, or of the refusal.
unfoldable pub line_by : Check Fault → (name file : List ℕ) → List ℕ
line_by fine name f = accepted_line name f
line_by (refused x) name f = refusal_line name f (File x)

unfoldable pub checked_line : (name file : List ℕ) → List ℕ
checked_line name f = line_by (checked f) name f

-- What a call of `check_line` gives: the line from the front, how long it is, and whether the file was accepted.
pub record CheckTold (out name file new : List ℕ) (r : Checked) : Type 0 where
  pub line : Laid out 0 (checked_line name file) new r.count
  pub accepted : r.accepted ≡ is_fine (checked file)

-- Room for the line of any file, without its name.
abbrev pub check_room : ℕ
check_room = 256
