-- What `help` prints, made from the table.
use Rattle.std.specs.Prelude.{ℕ, ◌-◌, List, [], ◌∷◌, ◌++◌, length, replicate}
use Rattle.ascii.specs.Text.{bytes_of}
use Rattle.ascii.specs.Words.{space, newline}
use Rattle.menu.specs.declared.Command.{Command}
use Rattle.menu.specs.Table.{Row, row_of, commands, usage_width}

-- The usage, with spaces up to the column of the help.
unfoldable pub padded : List ℕ → List ℕ
padded usage = usage ++ replicate (usage_width - length usage) space

-- A command's line: two spaces, its usage and its help.
unfoldable pub command_line : Row → List ℕ
command_line row = bytes_of "  " ++ (padded row.usage ++ (row.help ++ (newline ∷ [])))

-- Room for any of them.
abbrev pub line_room : ℕ
line_room = 123

-- A line for each of these.
unfoldable pub command_lines : List Command → List ℕ
command_lines [] = []
command_lines (c ∷ cs) = command_line (row_of c) ++ command_lines cs

-- Before the commands, and after them.
unfoldable pub help_head : List ℕ
help_head = bytes_of "usage: bin/poolmirror COMMAND ARGS\n\n"

unfoldable pub help_end : List ℕ
help_end = bytes_of "\nA name of a file may be - for standard input, or for standard output where one is written. Before a name that begins with a dash write --\nStatus: 0 done, 1 refused, 2 wrong usage, or something can't be read or written\ndocs/POOLMIRROR.md says more, and docs/PLAY.md which commands play reads.\n"

-- All of it, for the commands of the table.
unfoldable pub help_text : List ℕ
help_text = help_head ++ (command_lines commands ++ help_end)

-- Room for the head, for the end, and for all of it.
abbrev pub head_room : ℕ
head_room = 36

abbrev pub end_room : ℕ
end_room = 320

abbrev pub help_room : ℕ
help_room = 2048
