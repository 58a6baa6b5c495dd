-- What reading the number told decides.
-- Assumes nothing.
use Rattle.lines.proofs.CommandSteps.{figures}
use Rattle.lines.proofs.commands.read_pass.Goals as goal

pub returns-in_err-ms : goal.returns-in_err-ms
returns-in_err-ms c = search figures

pub returns : goal.returns
returns c = search figures
