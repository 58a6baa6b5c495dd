-- Each case says it.
-- Assumes nothing.
use Rattle.origins.proofs.AimSteps.{going}
use Rattle.origins.proofs.aims.aim_behind.Goals as goal

pub enum_told-1 : goal.enum_told-1
enum_told-1 c = search going

pub enum_told-in-TextEnd : goal.enum_told-in-TextEnd
enum_told-in-TextEnd c = search going

pub enum_told-in-ListEnd : goal.enum_told-in-ListEnd
enum_told-in-ListEnd c = search going

pub enum_known-aim : goal.enum_known-aim
enum_known-aim c = search going

pub past-requires : goal.past-requires
past-requires c = search going

pub returns-then-n-share : goal.returns-then-n-share
returns-then-n-share c = search going

pub past-requires-in-Past : goal.past-requires-in-Past
past-requires-in-Past c = search going

pub returns-in-Nothing : goal.returns-in-Nothing
returns-in-Nothing c = search going

pub returns-in-TextEnd : goal.returns-in-TextEnd
returns-in-TextEnd c = search going

pub returns-in-ListEnd : goal.returns-in-ListEnd
returns-in-ListEnd c = search going

pub returns-else-n-share : goal.returns-else-n-share
returns-else-n-share c = search going
