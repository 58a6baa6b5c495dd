-- There are too few names, or enough, or something was found before.
-- Assumes nothing.
use Rattle.orders.proofs.UsageSteps.{closing}
use Rattle.orders.proofs.arguments.close.Goals as goal

pub returns-then-o-entry_of : goal.returns-then-o-entry_of
returns-then-o-entry_of c = search closing

pub returns-then-not-is_right : goal.returns-then-not-is_right
returns-then-not-is_right c = search closing

pub returns : goal.returns
returns c = search closing
