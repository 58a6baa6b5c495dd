-- The word of a number, case by case. Assumes nothing.
use Rattle.rules.proofs.WordLaws.{words}
use Rattle.rules.proofs.ErrorWordFromUsize.from.Goals as goal

pub returns-in-0 : goal.returns-in-0
returns-in-0 c = search words

pub returns-in-1 : goal.returns-in-1
returns-in-1 c = search words

pub returns-in-2 : goal.returns-in-2
returns-in-2 c = search words

pub returns-in_default : goal.returns-in_default
returns-in_default c = search words
