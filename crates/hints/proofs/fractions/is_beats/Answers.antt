use Rattle.hints.proofs.FractionSteps.{fractions}
use Rattle.hints.proofs.fractions.is_beats.Goals as goal

pub returns : goal.returns
returns c = search fractions
