-- Each case says it.
-- Assumes nothing.
use Rattle.origins.proofs.AimSteps.{hitting}
use Rattle.origins.proofs.aims.hits.Goals as goal

pub enum_told-1 : goal.enum_told-1
enum_told-1 c = search hitting

pub enum_told-in-TextEnd : goal.enum_told-in-TextEnd
enum_told-in-TextEnd c = search hitting

pub enum_told-in-ListEnd : goal.enum_told-in-ListEnd
enum_told-in-ListEnd c = search hitting

pub enum_known-aim : goal.enum_known-aim
enum_known-aim c = search hitting

pub returns-in-Nothing : goal.returns-in-Nothing
returns-in-Nothing c = search hitting

pub returns-in-TextEnd : goal.returns-in-TextEnd
returns-in-TextEnd c = search hitting

pub returns-in-ListEnd : goal.returns-in-ListEnd
returns-in-ListEnd c = search hitting

pub returns-in-Past : goal.returns-in-Past
returns-in-Past c = search hitting
