-- Each case says it.
-- Assumes nothing.
use Rattle.origins.proofs.AimSteps.{eventing}
use Rattle.origins.proofs.aims.event_aim.Goals as goal

pub returns-then-events-eq0 : goal.returns-then-events-eq0
returns-then-events-eq0 c = search eventing

pub past-requires : goal.past-requires
past-requires c = search eventing

pub returns : goal.returns
returns c = search eventing
