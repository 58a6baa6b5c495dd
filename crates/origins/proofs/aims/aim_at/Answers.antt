-- Each case says it.
-- Assumes nothing.
use Rattle.origins.proofs.AimSteps.{aiming}
use Rattle.origins.proofs.aims.aim_at.Goals as goal

pub enum_told-1 : goal.enum_told-1
enum_told-1 c = search aiming

pub enum_known-e : goal.enum_known-e
enum_known-e c = search aiming

pub field_aim-requires : goal.field_aim-requires
field_aim-requires c = search aiming

pub enum_known-e-in-Event-1 : goal.enum_known-e-in-Event-1
enum_known-e-in-Event-1 c = search aiming

pub numbered-requires : goal.numbered-requires
numbered-requires c = search aiming

pub enum_known-e-in-Item-1 : goal.enum_known-e-in-Item-1
enum_known-e-in-Item-1 c = search aiming

pub past-requires : goal.past-requires
past-requires c = search aiming

pub enum_known-e-in-Message-1 : goal.enum_known-e-in-Message-1
enum_known-e-in-Message-1 c = search aiming

pub past-requires-in-Message : goal.past-requires-in-Message
past-requires-in-Message c = search aiming

pub returns-in-Nowhere : goal.returns-in-Nowhere
returns-in-Nowhere c = search aiming

pub returns-in-Contents : goal.returns-in-Contents
returns-in-Contents c = search aiming

pub returns-in-Event : goal.returns-in-Event
returns-in-Event c = search aiming

pub returns-in-Item : goal.returns-in-Item
returns-in-Item c = search aiming

pub returns-in-Message : goal.returns-in-Message
returns-in-Message c = search aiming
