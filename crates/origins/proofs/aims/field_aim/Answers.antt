-- Each case says it.
-- Assumes nothing.
use Rattle.origins.proofs.AimSteps.{fielding}
use Rattle.origins.proofs.aims.field_aim.Goals as goal

pub event_aim-requires : goal.event_aim-requires
event_aim-requires c = search fielding

pub past-requires : goal.past-requires
past-requires c = search fielding

pub past-requires-in-5 : goal.past-requires-in-5
past-requires-in-5 c = search fielding

pub past-requires-in-7 : goal.past-requires-in-7
past-requires-in-7 c = search fielding

pub returns-in-1 : goal.returns-in-1
returns-in-1 c = search fielding

pub returns-in-3 : goal.returns-in-3
returns-in-3 c = search fielding

pub returns-in-5 : goal.returns-in-5
returns-in-5 c = search fielding

pub returns-in-6 : goal.returns-in-6
returns-in-6 c = search fielding

pub returns-in-7 : goal.returns-in-7
returns-in-7 c = search fielding

pub returns-in_default : goal.returns-in_default
returns-in_default c = search fielding
