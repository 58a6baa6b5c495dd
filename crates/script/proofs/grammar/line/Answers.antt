use Rattle.script.proofs.GrammarSteps.{lines}
use Rattle.script.proofs.grammar.line.Goals as goal

pub returns-else-depth-eq0 : goal.returns-else-depth-eq0
returns-else-depth-eq0 c = search lines
