-- What standard error is told of a wrong usage, and names as people are told them.
use Rattle.std.specs.Prelude.{ℕ, List, [], ◌∷◌, ◌++◌, map, eqb, ltb}
use Rattle.base.specs.Tests.{pick}
use Rattle.ascii.specs.Text.{bytes_of}
use Rattle.ascii.specs.Words.{space, newline}
use Rattle.menu.specs.Table.{Row, row_of}
use Rattle.orders.specs.declared.Usage.{Usage}
use Rattle.orders.specs.declared.Usage.TheVariants.{Right, Wished, NoCommand, NoOption, TooFew, TooMany, NoNumber, InputTwice}
use Rattle.orders.specs.declared.Order.{Order}
use Rattle.orders.specs.Usage.{dash}

-- How the command is used, and room for it.
unfoldable pub usage_line : Row → List ℕ
usage_line row = bytes_of "usage: bin/poolmirror " ++ (row.usage ++ (newline ∷ []))

abbrev pub usage_room : ℕ
usage_room = 53

-- What is wrong with what; and how the command is used.
unfoldable pub fault : (what words : List ℕ) → List ℕ
fault what words = bytes_of "bin/poolmirror: " ++ (what ++ words)

unfoldable pub fault_usage : (what words : List ℕ) → Row → List ℕ
fault_usage what words row = fault what words ++ usage_line row

-- Room for the words before what is wrong.
abbrev pub front_room : ℕ
front_room = 16

-- An argument is missing of the command itself.
unfoldable pub missing : Row → List ℕ
missing row = fault_usage row.name (bytes_of ": an argument is missing\n") row

-- By what is wrong.
unfoldable pub misuse_of : Usage → Row → (arg : List ℕ) → List ℕ
misuse_of Right row arg = []
misuse_of Wished row arg = []
misuse_of NoCommand row arg = fault arg (bytes_of ": no such command. bin/poolmirror help lists the commands.\n")
misuse_of NoOption row arg = fault_usage arg (bytes_of ": no such option. Before a name that begins with a dash write --\n") row
misuse_of TooFew row arg = missing row
misuse_of TooMany row arg = fault_usage arg (bytes_of ": one argument too many\n") row
misuse_of NoNumber row arg = fault_usage arg (bytes_of ": not a whole number of 1 to 10 digits\n") row
misuse_of InputTwice row arg = fault_usage dash (bytes_of ": standard input can't be read twice\n") row

-- The lines that tell of a wrong usage, where arg is the argument at fault; nothing where none is.
unfoldable pub misuse_line : Order → (arg : List ℕ) → List ℕ
misuse_line o arg = misuse_of o.usage (row_of o.command) arg

-- Room for the lines, without the argument.
abbrev pub misuse_room : ℕ
misuse_room = 160

-- A byte that would leave the line, or not show, is shown as a question mark.
abbrev pub unshown : ℕ
unshown = 63

abbrev pub delete : ℕ
delete = 127

unfoldable pub shown_byte : ℕ → ℕ
shown_byte b = pick (ltb b space) unshown (pick (eqb b delete) unshown b)

-- A name as it is shown; an empty one by two quotes, so that it is seen.
unfoldable pub shown : List ℕ → List ℕ
shown [] = bytes_of "\"\""
shown (b ∷ bs) = map shown_byte (b ∷ bs)

-- Room for the quotes.
abbrev pub quotes_room : ℕ
quotes_room = 2

-- Line 1 of a file, in the form that editors jump to, and how many bytes that is more than its name.
unfoldable pub first_line : (name : List ℕ) → List ℕ
first_line name = name ++ bytes_of ":1"

abbrev pub line_size : ℕ
line_size = 2
