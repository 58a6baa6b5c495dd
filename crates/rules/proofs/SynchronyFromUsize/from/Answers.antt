-- The word of a number, case by case. Assumes nothing.
use Rattle.rules.proofs.WordLaws.{words}
use Rattle.rules.proofs.SynchronyFromUsize.from.Goals as goal

pub returns-in-0 : goal.returns-in-0
returns-in-0 c = search words

pub returns-in_default : goal.returns-in_default
returns-in_default c = search words
