-- Each division by 10,000 takes four places off.
-- Assumes nothing.
use Rattle.ascii.proofs.DigitSteps.{counting}
use Rattle.ascii.proofs.laying.places.Goals as goal

pub returns-then-n-lt10000 : goal.returns-then-n-lt10000
returns-then-n-lt10000 c = search counting

pub returns-then-n-lt100000000 : goal.returns-then-n-lt100000000
returns-then-n-lt100000000 c = search counting

pub returns-then-n-lt1000000000000 : goal.returns-then-n-lt1000000000000
returns-then-n-lt1000000000000 c = search counting

pub returns-then-n-lt10000000000000000 : goal.returns-then-n-lt10000000000000000
returns-then-n-lt10000000000000000 c = search counting

pub returns : goal.returns
returns c = search counting
