use Rattle.hints.proofs.FractionSteps.{unevens}
use Rattle.hints.proofs.fractions.is_uneven.Goals as goal

pub returns-then-is_fractional : goal.returns-then-is_fractional
returns-then-is_fractional c = search unevens

pub returns-else-is_fractional : goal.returns-else-is_fractional
returns-else-is_fractional c = search unevens
