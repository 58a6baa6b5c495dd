-- The whole of what `help` prints, worked out by the definitions.
-- Assumes nothing.
use mathlib.Core.Path.{◌≡◌, refl}
use mathlib.Core.List.{◌++◌}
use Rattle.ascii.specs.Text.{bytes_of}
use Rattle.menu.specs.Table.{row_of, commands}
use Rattle.menu.specs.Help.{padded, command_line, command_lines, help_head, help_end, help_text}

pub help-told : help_text
    ≡ bytes_of "usage: bin/poolmirror COMMAND ARGS\n\n"
    ++ (bytes_of "  check FILE ..                 says of each file what is in it, or why it is refused\n"
    ++ (bytes_of "  play FILE COMMANDS [GRACE]    plays a score by commands, and prints what is sent; GRACE is 0 to 630 grains\n"
    ++ (bytes_of "  read TEXT FILE                reads a score that is written as text, and makes its file\n"
    ++ (bytes_of "  write FILE TEXT               writes a score as text, to be read, corrected and sent back\n"
    ++ (bytes_of "  unfold EXTENDED FILE          unfolds the loops and curves of an extended score, and makes its file\n"
    ++ (bytes_of "  replies                       lists the reply numbers with their words\n"
    ++ (bytes_of "  help                          lists the commands\n\n"
    ++ (bytes_of "A name of a file may be - for standard input, or for standard output where one is written. Before a name that begins with a dash write --\n"
    ++ (bytes_of "Status: 0 done, 1 refused, 2 wrong usage, or something can't be read or written\n"
    ++ bytes_of "docs/POOLMIRROR.md says more, and docs/PLAY.md which commands play reads.\n")))))))))
unfolding row_of commands padded command_line command_lines help_head help_end help_text
help-told = refl
