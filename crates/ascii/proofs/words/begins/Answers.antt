use Rattle.std.proofs.Common.{◌∙◌}
use Rattle.ascii.proofs.WordSteps.{begins-with}
use Rattle.ascii.proofs.words.begins.Goals as goal

pub returns : goal.returns
returns c = c.starts_with.ensures.value ∙ begins-with c.args.word.now c.args.bytes.now
