use Rattle.hints.proofs.FractionSteps.{fractions}
use Rattle.hints.proofs.fractions.is_fractional.Goals.{then-text-n-via-then-text-n, then-text-n-via-else-text-n+then-text-n-ne-SLASH}
use Rattle.hints.proofs.fractions.is_fractional.Goals as goal

pub returns-in_default : goal.returns-in_default
returns-in_default c = search fractions

pub returns-then-text-n : goal.returns-then-text-n
returns-then-text-n c = elim c.then-text-n.branch [ then-text-n-via-then-text-n w ↦ search fractions | then-text-n-via-else-text-n+then-text-n-ne-SLASH w ↦ search fractions ]

pub returns : goal.returns
returns c = search fractions
