use Rattle.std.proofs.Common.{◌∙◌}
use Rattle.ascii.proofs.WordSteps.{same-with}
use Rattle.ascii.proofs.words.same.Goals as goal

pub returns : goal.returns
returns c = c.eq.ensures ∙ same-with c.args.word.now c.args.bytes.now
