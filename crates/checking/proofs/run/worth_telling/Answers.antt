-- Where all were accepted nothing is told; else more than one file is.
-- Assumes nothing.
use Rattle.checking.proofs.RunLaws.{telling}
use Rattle.checking.proofs.run.worth_telling.Goals as goal

pub returns-then-others-lt1 : goal.returns-then-others-lt1
returns-then-others-lt1 c = search telling

pub returns : goal.returns
returns c = search telling
