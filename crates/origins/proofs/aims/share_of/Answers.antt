-- Each case says it.
-- Assumes nothing.
use Rattle.origins.proofs.AimSteps.{sharing}
use Rattle.origins.proofs.aims.share_of.Goals as goal

pub enum_told-1 : goal.enum_told-1
enum_told-1 c = search sharing

pub enum_told-in-TextEnd : goal.enum_told-in-TextEnd
enum_told-in-TextEnd c = search sharing

pub enum_told-in-ListEnd : goal.enum_told-in-ListEnd
enum_told-in-ListEnd c = search sharing

pub enum_known-aim : goal.enum_known-aim
enum_known-aim c = search sharing

pub count_of-requires : goal.count_of-requires
count_of-requires c = search sharing

pub returns-in-Nothing : goal.returns-in-Nothing
returns-in-Nothing c = search sharing

pub returns-in-TextEnd : goal.returns-in-TextEnd
returns-in-TextEnd c = search sharing

pub returns-in-ListEnd : goal.returns-in-ListEnd
returns-in-ListEnd c = search sharing

pub returns-in-Past : goal.returns-in-Past
returns-in-Past c = search sharing
