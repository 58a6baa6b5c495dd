-- Each stage says it.
-- Assumes nothing.
use Rattle.script.proofs.GrammarSteps.{endings}
use Rattle.script.proofs.grammar.may_end.Goals as goal

pub returns-in-Start : goal.returns-in-Start
returns-in-Start c = search endings

pub returns-in-Listing : goal.returns-in-Listing
returns-in-Listing c = search endings

pub returns-in-Timed : goal.returns-in-Timed
returns-in-Timed c = search endings

pub returns-in-Playing : goal.returns-in-Playing
returns-in-Playing c = search endings
