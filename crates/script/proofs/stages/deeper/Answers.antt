-- Each stage says it.
-- Assumes nothing.
use Rattle.script.proofs.StageSteps.{deepening}
use Rattle.script.proofs.stages.deeper.Goals as goal

pub overflow_add-result : goal.overflow_add-result
overflow_add-result c = search deepening

pub returns-in-Start : goal.returns-in-Start
returns-in-Start c = search deepening

pub returns-in-Listing : goal.returns-in-Listing
returns-in-Listing c = search deepening

pub returns-in-Timed : goal.returns-in-Timed
returns-in-Timed c = search deepening

pub returns-in-Playing : goal.returns-in-Playing
returns-in-Playing c = search deepening
