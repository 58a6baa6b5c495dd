-- Each arm in turn.
-- Assumes nothing.
use Rattle.tokens.proofs.LabelSteps.{escaped-tests}
use Rattle.tokens.proofs.labels.is_escaped.Goals as goal

pub returns-in-34 : goal.returns-in-34
returns-in-34 c = search escaped-tests

pub returns-in-92 : goal.returns-in-92
returns-in-92 c = search escaped-tests

pub returns-in_default : goal.returns-in_default
returns-in_default c = search escaped-tests
