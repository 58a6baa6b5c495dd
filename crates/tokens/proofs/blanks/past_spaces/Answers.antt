use Rattle.tokens.proofs.BlankSteps.{spacing}
use Rattle.tokens.proofs.blanks.past_spaces.Goals as goal

pub loop-i-preserved : goal.loop-i-preserved
loop-i-preserved c = search spacing
