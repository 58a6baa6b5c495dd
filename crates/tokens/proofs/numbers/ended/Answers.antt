use Rattle.tokens.proofs.NumberSteps.{ending}
use Rattle.tokens.proofs.numbers.ended.Goals.{then-n-lt1-via-then-n-lt1, then-n-lt1-via-else-n-lt1+then-limit-sum}
use Rattle.tokens.proofs.numbers.ended.Goals as goal

pub returns-then-n-lt1 : goal.returns-then-n-lt1
returns-then-n-lt1 c = elim c.then-n-lt1.branch [ then-n-lt1-via-then-n-lt1 w ↦ search ending | then-n-lt1-via-else-n-lt1+then-limit-sum w ↦ search ending ]

pub returns : goal.returns
returns c = search ending
