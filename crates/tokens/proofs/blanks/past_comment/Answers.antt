use Rattle.tokens.proofs.BlankSteps.{commenting}
use Rattle.tokens.proofs.blanks.past_comment.Goals as goal

pub returns-then-text-i-eq-NEWLINE : goal.returns-then-text-i-eq-NEWLINE
returns-then-text-i-eq-NEWLINE c = search commenting

pub loop-i-preserved : goal.loop-i-preserved
loop-i-preserved c = search commenting

pub returns : goal.returns
returns c = search commenting
