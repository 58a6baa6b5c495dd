use Rattle.script.proofs.LineSteps.{erroring}
use Rattle.script.proofs.item.erring.Goals as goal

pub returns-in_default : goal.returns-in_default
returns-in_default c = search erroring

pub past_word-brace-requires : goal.past_word-brace-requires
past_word-brace-requires c = search erroring

pub opened-requires-2 : goal.opened-requires-2
opened-requires-2 c = search erroring

pub returns : goal.returns
returns c = search erroring
