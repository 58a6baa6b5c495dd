-- A number below 10 has one place, and each ten times more has one more.
-- Assumes nothing.
use Rattle.ascii.proofs.DigitSteps.{counting}
use Rattle.ascii.proofs.laying.few_places.Goals as goal

pub returns-then-n-lt10 : goal.returns-then-n-lt10
returns-then-n-lt10 c = search counting

pub returns-then-n-lt100 : goal.returns-then-n-lt100
returns-then-n-lt100 c = search counting

pub returns-then-n-lt1000 : goal.returns-then-n-lt1000
returns-then-n-lt1000 c = search counting

pub returns : goal.returns
returns c = search counting
