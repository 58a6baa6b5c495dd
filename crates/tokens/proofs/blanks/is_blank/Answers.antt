-- Each arm in turn.
-- Assumes nothing.
use Rattle.tokens.proofs.BlankSteps.{blank-tests}
use Rattle.tokens.proofs.blanks.is_blank.Goals as goal

pub returns-in-32 : goal.returns-in-32
returns-in-32 c = search blank-tests

pub returns-in-9 : goal.returns-in-9
returns-in-9 c = search blank-tests

pub returns-in-13 : goal.returns-in-13
returns-in-13 c = search blank-tests

pub returns-in-10 : goal.returns-in-10
returns-in-10 c = search blank-tests

pub returns-in_default : goal.returns-in_default
returns-in_default c = search blank-tests
