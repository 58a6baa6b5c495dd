-- The invariant: looking in the rest of the list gives what looking in all of it gives.
-- Assumes nothing.
use mathlib.Core.Path.{◌≡◌}
use lib.ListN.{drop}
use Rattle.menu.specs.Table.{commands, named_in, command_named}
use Rattle.menu.proofs.table.find_command.Given as goal

abbrev pub invariant-loop-c : goal.invariant-loop-c
invariant-loop-c l = named_in (drop l.c-index commands) l.bytes ≡ command_named l.bytes
