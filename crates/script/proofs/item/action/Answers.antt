use Rattle.script.proofs.LineSteps.{actions}
use Rattle.script.proofs.item.action.Goals as goal

pub past_word-next-requires : goal.past_word-next-requires
past_word-next-requires c = search actions

pub returns-then-is_word : goal.returns-then-is_word
returns-then-is_word c = search actions

pub past_word-next-requires-then-is_word-2 : goal.past_word-next-requires-then-is_word-2
past_word-next-requires-then-is_word-2 c = search actions

pub returns-then-is_word-2 : goal.returns-then-is_word-2
returns-then-is_word-2 c = search actions

pub returns : goal.returns
returns c = search actions
