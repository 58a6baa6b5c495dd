-- The table of commands.
use Rattle.std.specs.Prelude.{ℕ, List, [], ◌∷◌, Option, Some, None}
use Rattle.base.specs.Tests.{pick}
use Rattle.ascii.specs.Text.{bytes_of}
use Rattle.ascii.specs.Words.{same}
use Rattle.menu.specs.declared.Command.{Command}
use Rattle.menu.specs.declared.Command.TheVariants.{Check, Play, Read, Write, Unfold, Replies, Help}

-- A command's name, how it is used, what it is for, how many arguments it takes, how many of them, the first ones, are names of files, where each argument behind
-- these is a number, and how many of the files are read: the others are written.
pub record Row : Type 0 where
  pub name : List ℕ
  pub usage : List ℕ
  pub help : List ℕ
  pub least : ℕ
  pub most : ℕ
  pub files : ℕ
  pub reads : ℕ

-- As many as there may be.
abbrev pub any_number : ℕ
any_number = 18446744073709551615

-- The table, row by row.
unfoldable pub row_of : Command → Row
row_of Check =
    record {
      name = bytes_of "check";
      usage = bytes_of "check FILE ..";
      help = bytes_of "says of each file what is in it, or why it is refused";
      least = 1;
      most = any_number;
      files = any_number;
      reads = any_number;
    }
row_of Play =
    record {
      name = bytes_of "play";
      usage = bytes_of "play FILE COMMANDS [GRACE]";
      help = bytes_of "plays a score by commands, and prints what is sent; GRACE is 0 to 630 grains";
      least = 2;
      most = 3;
      files = 2;
      reads = 2;
    }
row_of Read =
    record {
      name = bytes_of "read";
      usage = bytes_of "read TEXT FILE";
      help = bytes_of "reads a score that is written as text, and makes its file";
      least = 2;
      most = 2;
      files = 2;
      reads = 1;
    }
row_of Write =
    record {
      name = bytes_of "write";
      usage = bytes_of "write FILE TEXT";
      help = bytes_of "writes a score as text, to be read, corrected and sent back";
      least = 2;
      most = 2;
      files = 2;
      reads = 1;
    }
row_of Unfold =
    record {
      name = bytes_of "unfold";
      usage = bytes_of "unfold EXTENDED FILE";
      help = bytes_of "unfolds the loops and curves of an extended score, and makes its file";
      least = 2;
      most = 2;
      files = 2;
      reads = 1;
    }
row_of Replies = record { name = bytes_of "replies"; usage = bytes_of "replies"; help = bytes_of "lists the reply numbers with their words"; least = 0; most = 0; files = 0; reads = 0 }
row_of Help = record { name = bytes_of "help"; usage = bytes_of "help"; help = bytes_of "lists the commands"; least = 0; most = 0; files = 0; reads = 0 }

-- The order in which they are listed.
unfoldable pub commands : List Command
commands = Check ∷ Play ∷ Read ∷ Write ∷ Unfold ∷ Replies ∷ Help ∷ []

abbrev pub count : ℕ
count = 7

-- How wide a row's texts are at most, a usage one less, and room for all three.
abbrev pub name_width : ℕ
name_width = 16

abbrev pub usage_width : ℕ
usage_width = 30

abbrev pub help_width : ℕ
help_width = 90

abbrev pub row_room : ℕ
row_room = 136

-- The command of these whose name the bytes are, or none.
unfoldable pub named_in : List Command → List ℕ → Option Command
named_in [] bytes = None
named_in (c ∷ cs) bytes = pick (same (row_of c).name bytes) (Some c) (named_in cs bytes)

unfoldable pub command_named : List ℕ → Option Command
command_named bytes = named_in commands bytes
