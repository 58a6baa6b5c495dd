use Rattle.script.proofs.GrammarSteps.{dividing}
use Rattle.script.proofs.grammar.divided.Goals as goal

pub past_word-duration-requires : goal.past_word-duration-requires
past_word-duration-requires c = search dividing

pub returns-then-is_word : goal.returns-then-is_word
returns-then-is_word c = search dividing

pub past_word-number-requires : goal.past_word-number-requires
past_word-number-requires c = search dividing

pub returns-then-is_word-2 : goal.returns-then-is_word-2
returns-then-is_word-2 c = search dividing

pub returns : goal.returns
returns c = search dividing
