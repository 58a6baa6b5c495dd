-- What reading two numbers told decides.
-- Assumes nothing.
use Rattle.lines.proofs.CommandSteps.{figures}
use Rattle.lines.proofs.commands.read_hear.Goals as goal

pub returns-in_err-event : goal.returns-in_err-event
returns-in_err-event c = search figures

pub returns : goal.returns
returns c = search figures
