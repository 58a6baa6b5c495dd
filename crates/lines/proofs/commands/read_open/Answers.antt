-- What reading two numbers told, and the parts' limit, decide.
-- Assumes nothing.
use Rattle.lines.proofs.CommandSteps.{figures}
use Rattle.lines.proofs.commands.read_open.Goals as goal

pub returns-in_err-parts : goal.returns-in_err-parts
returns-in_err-parts c = search figures

pub returns-then-parts-gt-MOST_PARTS : goal.returns-then-parts-gt-MOST_PARTS
returns-then-parts-gt-MOST_PARTS c = search figures

pub returns : goal.returns
returns c = search figures
