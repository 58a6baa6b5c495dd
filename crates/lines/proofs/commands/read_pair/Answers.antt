-- The two parts around the first space are read as numbers; what the calls told decides.
-- Assumes nothing.
use Rattle.lines.proofs.CommandSteps.{pairs}
use Rattle.lines.proofs.commands.read_pair.Goals as goal

pub returns-then-bytes-stop : goal.returns-then-bytes-stop
returns-then-bytes-stop c = search pairs

pub returns-in_err-a : goal.returns-in_err-a
returns-in_err-a c = search pairs

pub returns-in_err-b : goal.returns-in_err-b
returns-in_err-b c = search pairs

pub returns : goal.returns
returns c = search pairs
