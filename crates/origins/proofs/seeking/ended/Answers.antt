use Rattle.origins.proofs.SeekSteps.{endings}
use Rattle.origins.proofs.seeking.ended.Goals as goal

pub returns-in-Nothing : goal.returns-in-Nothing
returns-in-Nothing c = search endings

pub returns-in-TextEnd : goal.returns-in-TextEnd
returns-in-TextEnd c = search endings

pub returns-in-ListEnd : goal.returns-in-ListEnd
returns-in-ListEnd c = search endings

pub returns-in-Past : goal.returns-in-Past
returns-in-Past c = search endings
