-- A byte that is left decides.
-- Assumes nothing.
use Rattle.script.proofs.GrammarSteps.{endings}
use Rattle.script.proofs.grammar.is_over.Goals as goal

pub returns-then-at-text : goal.returns-then-at-text
returns-then-at-text c = search endings

pub returns : goal.returns
returns c = search endings
