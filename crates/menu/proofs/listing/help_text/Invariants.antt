-- The invariant: behind the head the lines of the commands passed are laid.
-- Assumes nothing.
use Prim.Native.Nat.{◌+◌, ◌*◌, ◌≤◌}
use lib.ListN.{take}
use Rattle.ascii.specs.Laying.{Laid}
use Rattle.menu.specs.Table.{commands}
use Rattle.menu.specs.Help.{line_room, command_lines}
use Rattle.menu.proofs.listing.help_text.Given as goal

abbrev pub invariant-loop-c : goal.invariant-loop-c
invariant-loop-c l = (l.at ≤ l.initial.at + l.c-index * line_room) × Laid l.initial.out l.initial.at (command_lines (take l.c-index commands)) l.out l.at
