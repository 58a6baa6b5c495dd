use Rattle.tokens.proofs.BlankSteps.{passing}
use Rattle.tokens.proofs.blanks.past_blanks.Goals as goal

pub loop-i-preserved-then-is_blank : goal.loop-i-preserved-then-is_blank
loop-i-preserved-then-is_blank c = search passing

pub returns-then-b-ne-HASH : goal.returns-then-b-ne-HASH
returns-then-b-ne-HASH c = search passing

pub loop-i-preserved : goal.loop-i-preserved
loop-i-preserved c = search passing

pub returns : goal.returns
returns c = search passing
