-- The line's command is read, and its turn decides.
-- Assumes nothing.
use Rattle.std.proofs.Common.{◌≡◌, None}
use Rattle.lines.proofs.CommandSteps.{turn-none}
use Rattle.lines.proofs.commands.command_in_turn.Goals as goal

pub returns-in_err-read_command : goal.returns-in_err-read_command
returns-in_err-read_command c =
    let w : c.read_command.result ≡ None = c.in_err-read_command.was in
    cc (turn-none c.args.first c.args.opened)
