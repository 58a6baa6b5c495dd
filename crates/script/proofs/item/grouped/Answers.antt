use Rattle.script.proofs.LineSteps.{grouping}
use Rattle.script.proofs.item.grouped.Goals as goal

pub returns-in_default : goal.returns-in_default
returns-in_default c = search grouping

pub past_word-word-requires : goal.past_word-word-requires
past_word-word-requires c = search grouping

pub erring-requires-2 : goal.erring-requires-2
erring-requires-2 c = search grouping

pub returns : goal.returns
returns c = search grouping
