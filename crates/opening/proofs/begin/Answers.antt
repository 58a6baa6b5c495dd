-- One table after the other is the definition of a new session.
-- Assumes nothing.
use Rattle.opening.proofs.OpeningSteps.{words-begun}
use borrow.Author.Rules.{rules}
use Rattle.opening.proofs.begin.Goals as goal

pub returns : goal.returns
returns c = search words-begun
