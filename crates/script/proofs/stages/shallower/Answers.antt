-- Each stage says it.
-- Assumes nothing.
use Rattle.script.proofs.StageSteps.{shallowing}
use Rattle.script.proofs.stages.shallower.Goals as goal

pub returns-then-depth-lt1 : goal.returns-then-depth-lt1
returns-then-depth-lt1 c = search shallowing

pub returns-in-Start : goal.returns-in-Start
returns-in-Start c = search shallowing

pub returns-in-Listing : goal.returns-in-Listing
returns-in-Listing c = search shallowing

pub returns-in-Timed : goal.returns-in-Timed
returns-in-Timed c = search shallowing

pub returns-else-depth-lt1 : goal.returns-else-depth-lt1
returns-else-depth-lt1 c = search shallowing
