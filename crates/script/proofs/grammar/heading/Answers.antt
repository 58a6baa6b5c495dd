use Rattle.script.proofs.GrammarSteps.{headings}
use Rattle.script.proofs.grammar.heading.Goals as goal

pub returns-then-not-is_word : goal.returns-then-not-is_word
returns-then-not-is_word c = search headings

pub returns : goal.returns
returns c = search headings
