-- Each stage says it.
-- Assumes nothing.
use Rattle.script.proofs.StageSteps.{furthering}
use Rattle.script.proofs.stages.further.Goals as goal

pub overflow_add-result : goal.overflow_add-result
overflow_add-result c = search furthering

pub returns-in-Start : goal.returns-in-Start
returns-in-Start c = search furthering

pub returns-in-Listing : goal.returns-in-Listing
returns-in-Listing c = search furthering

pub returns-in-Timed : goal.returns-in-Timed
returns-in-Timed c = search furthering

pub returns-in-Playing : goal.returns-in-Playing
returns-in-Playing c = search furthering
