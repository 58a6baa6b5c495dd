-- The number decides.
-- Assumes nothing.
use Rattle.script.proofs.WordSteps.{sizes}
use Rattle.script.proofs.words.error_size.Goals as goal

pub returns-in-0 : goal.returns-in-0
returns-in-0 c = search sizes

pub returns-in-1 : goal.returns-in-1
returns-in-1 c = search sizes

pub returns-in-2 : goal.returns-in-2
returns-in-2 c = search sizes

pub returns-in_default : goal.returns-in_default
returns-in_default c = search sizes
