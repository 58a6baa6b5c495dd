-- Each case says it.
-- Assumes nothing.
use Rattle.origins.proofs.AimSteps.{eventing}
use Rattle.origins.proofs.aims.numbered.Goals as goal

pub past-requires : goal.past-requires
past-requires c = search eventing

pub returns-then-n-lt1 : goal.returns-then-n-lt1
returns-then-n-lt1 c = search eventing

pub past-requires-2 : goal.past-requires-2
past-requires-2 c = search eventing

pub returns : goal.returns
returns c = search eventing
