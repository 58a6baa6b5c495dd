-- "commands from standard input: `O parts tempo` (first, once), `H event tempo`, `T ms`, whole numbers, one space between".
use Rattle.std.specs.Prelude.{ℕ, suc, Bool, List, [], ◌∷◌, leb, take, drop, Option, Some, None}
use Rattle.base.specs.Tests.{pick, every}
use Rattle.ascii.specs.Words.{space, begins, bytes_before}
use Rattle.ascii.specs.Numbers.{is_number, value}
use Rattle.lines.specs.declared.Command.{Command}
use Rattle.lines.specs.declared.Command.TheVariants.{Open, Hear, Pass}
use Rattle.lines.specs.Words.{open_command, hear_command, pass_command}

-- The bytes before the first space, and those after it.
unfoldable pub first_word : List ℕ → List ℕ
first_word bs = take (bytes_before space bs) bs

unfoldable pub other_words : List ℕ → List ℕ
other_words bs = drop (suc (bytes_before space bs)) bs

-- Two numbers, "one space between".
unfoldable pub two_numbers : List ℕ → Bool
two_numbers bs = every (is_number (first_word bs) ∷ is_number (other_words bs) ∷ [])

unfoldable pub pair_of : List ℕ → Option (ℕ × ℕ)
pair_of bs = pick (two_numbers bs) (Some (value (first_word bs), value (other_words bs))) None

-- What follows the letter and its space. "parts above 65,535 make the line unreadable"
abbrev pub most_parts : ℕ
most_parts = 65535

unfoldable pub open_of : List ℕ → Option Command
open_of bs = pick (every (two_numbers bs ∷ leb (value (first_word bs)) most_parts ∷ [])) (Some (Open (value (first_word bs)) (value (other_words bs)))) None

unfoldable pub hear_of : List ℕ → Option Command
hear_of bs = pick (two_numbers bs) (Some (Hear (value (first_word bs)) (value (other_words bs)))) None

unfoldable pub pass_of : List ℕ → Option Command
pass_of bs = pick (is_number bs) (Some (Pass (value bs))) None

unfoldable pub command_of : List ℕ → Option Command
command_of line =
    pick (begins open_command line) (open_of (drop 2 line))
    (pick (begins hear_command line) (hear_of (drop 2 line))
    (pick (begins pass_command line) (pass_of (drop 2 line)) None))

-- "Out of turn are an `O` on any line but the first, and `H` or `T` before an opening that was granted."
unfoldable pub in_turn : (first opened : Bool) → Option Command → Option Command
in_turn first opened (Some (Open parts tempo)) = pick first (Some (Open parts tempo)) None
in_turn first opened (Some (Hear event tempo)) = pick opened (Some (Hear event tempo)) None
in_turn first opened (Some (Pass ms)) = pick opened (Some (Pass ms)) None
in_turn first opened None = None
